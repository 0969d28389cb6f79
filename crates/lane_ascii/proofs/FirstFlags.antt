-- The first flag that is set, as the lowest bit of the mask.
use Rattle.std.proofs.Common.{◌≡◌, ℕ, suc, ◌+◌, ◌<◌, ◌≤◌, ◌==◌, Bool, true, false, not, cond, List, [], ◌∷◌, length, refl, sym, ap, subst, ◌∙◌, arith}
use Rattle.std.{proofs.lemmas.Bool.cases_Bool, proofs.lemmas.List.map-id, proofs.lemmas.Simd.first_set_mask_l, specs.List.prefix_len}
use Rattle.lane_ascii.specs.{Bits.first_set, Flags.flags_set, Flags.IsNthFlag}
use lib.{Count.count_trailing_zeros, Lanes.mask_l}

first : (fs : List Bool) → 0 < flags_set fs → IsNthFlag fs 0 (prefix_len (λ (b : Bool). not b) fs)
first [] h = absurd (omega (arith, h))
first (true ∷ fs) h = record { within = omega arith; before = refl; is = refl }
first (false ∷ fs) h =
    let r = first fs (omega (arith, h)) in
    let next : 1 + prefix_len (λ (b : Bool). not b) fs ≡ suc (prefix_len (λ (b : Bool). not b) fs) = omega arith in
    rw next (record { within = omega (arith, r.within); before = omega (arith, r.before); is = r.is })

pub first_flag : (fs : List Bool) (mask r : ℕ) → length fs ≤ 64 → mask ≡ mask_l fs → 0 < flags_set fs → r ≡ first_set mask 63 → IsNthFlag fs 0 r × (r < 64)
first_flag fs mask r few is some e =
    let f = first fs some in
    let p : ℕ = prefix_len (λ (b : Bool). not b) fs in
    let raw = first_set_mask_l (λ (b : Bool). b) fs (length fs) refl few in
    let all : cond (mask_l fs == 0) (length fs) (count_trailing_zeros 64 (mask_l fs)) ≡ p = rw (map-id fs) at raw in
    let here : first_set (mask_l fs) 63 ≡ p = grind (arith, cases_Bool (mask_l fs == 0), all, f.within) in
    let at : r ≡ p = e ∙ ap (λ m. first_set m 63) is ∙ here in
    (subst (IsNthFlag fs 0) (sym at) f, omega (arith, at, f.within, few))
