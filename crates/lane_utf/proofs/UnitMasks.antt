-- Masks of units, and what they say of pairs.
use Rattle.std.proofs.Common.{◌≡◌, refl, sym, ap, ap₂, ◌∙◌, ℕ, zero, suc, ◌+◌, ◌-◌, ◌*◌, ◌≤◌, ◌%◌, ◌^◌, Bool, true, false, cond, ◌==◌, ◌&&◌, ◌||◌, leb, ltb}
use Rattle.std.proofs.Common.{nat_le, nat_lt, replicate, List, [], ◌∷◌, ◌++◌, length, map, take, drop, get_or, Some, arith, bit_and, subst, ◌/◌}
use Rattle.std.proofs.lemmas.{Bool.cases_Bool, Bool.Decides.nat_tests, List.drop_more, List.length-drop, List.get_or-drop}
use Rattle.std.proofs.lemmas.Simd.{chunk-drop, length-chunk, zip2_of_maps, zip2_splat, zip2_splat_left}
use Rattle.lane_utf.specs.{Scan.lone_from, Scan.Matched, Utf16.is_lead, Utf16.is_surrogate, Utf16.is_trail, Utf16.first_lone, Weights.has_two}
use Rattle.lane_utf.{specs.Weights.has_three, specs.Weights.unit_weight, specs.Widths.total_width, proofs.Lone.scanned, proofs.Measures.mask_of_lanes}
use lib.Lanes.{mask_l, top, zip2}

-- a lane of a comparison
abbrev pub at_most : ℕ → ℕ → ℕ
at_most a b = cond (leb a b) 65535 0

abbrev pub below : ℕ → ℕ → ℕ
below a b = cond (ltb a b) 65535 0

abbrev pub same_lane : ℕ → ℕ → ℕ
same_lane a b = cond (a == b) 65535 0

abbrev pub shifted : ℕ → ℕ → ℕ
shifted a b = a / 2 ^ b

-- units within bounds
pub mask_between : (n from to : ℕ) (v : List ℕ) → length v ≡ n → n ≤ 64
    → mask_l (map (top 15) (zip2 bit_and (zip2 at_most (replicate n from) v) (zip2 below v (replicate n to)))) % 2 ^ 64
    ≡ mask_l (map (λ u. nat_le from u && nat_lt u to) v)
mask_between n from to v long few =
    mask_of_lanes 15 _ _ v n long few (zip2_of_maps bit_and _ _ v (zip2_splat_left at_most from n v long) (zip2_splat below v n to long))
    (λ u. grind (arith, cases_Bool (nat_le from u), cases_Bool (nat_lt u to)))

-- the bytes that a unit stands for, one by one
pub weights : (v : List ℕ) → total_width unit_weight v ≡ length v + (total_width (λ u. cond (has_two u) 1 0) v + total_width (λ u. cond (has_three u) 1 0) v)
weights [] = refl
weights (u ∷ us) = grind (arith, nat_tests, weights us)

-- equal masks are those of lanes that agree
same_bits : (x y : Bool) (m n : ℕ) → cond x 1 0 + 2 * m ≡ cond y 1 0 + 2 * n → (x ≡ y) × (m ≡ n)
same_bits x y m n e = (grind (arith, cases_Bool x, cases_Bool y), grind (arith, cases_Bool x, cases_Bool y))

pub matched : (n x : ℕ) (us : List ℕ) → n ≤ length us → mask_l (map is_trail (take n us)) ≡ mask_l (map is_lead (take n (x ∷ us)))
    → Matched (is_lead x) (take n us)
matched zero x us h e = tt
matched (suc n) x [] h e = absurd (omega (arith, h))
matched (suc n) x (u ∷ us) h e =
    let s = same_bits (is_trail u) (is_lead x) _ _ e in
    (s.0, matched n u us (omega (arith, h)) s.1)

-- units without surrogates match after a unit that leads no pair
neither : (lead trail : Bool) (m : ℕ) → cond (lead || trail) 1 0 + 2 * m ≡ 0 → (lead ≡ false) × (trail ≡ false) × (m ≡ 0)
neither lead trail m e = (grind (arith, cases_Bool lead), grind (arith, cases_Bool lead, cases_Bool trail), omega (arith, e))

pub unpaired : (v : List ℕ) → mask_l (map is_surrogate v) ≡ 0 → Matched false v
unpaired [] e = tt
unpaired (u ∷ us) e =
    let n = neither (is_lead u) (is_trail u) _ e in
    (n.1, subst (λ b. Matched b us) (sym n.0) (unpaired us n.2))

-- over units that match, the scan continues
abbrev pub last_leads : Bool → List ℕ → Bool
last_leads after_lead [] = after_lead
last_leads after_lead (u ∷ us) = last_leads (is_lead u) us

past_matched : (after : Bool) (at : ℕ) (block rest : List ℕ) → Matched after block
    → lone_from after at (block ++ rest) ≡ lone_from (last_leads after block) (at + length block) rest
past_matched after at [] rest m = ap (λ k. lone_from after k rest) (omega arith)
past_matched true at (u ∷ us) rest m =
    rw (m.0, past_matched (is_lead u) (at + 1) us rest m.1) (ap (λ k. lone_from (last_leads (is_lead u) us) k rest) (omega arith))
past_matched false at (u ∷ us) rest m =
    rw (m.0, past_matched (is_lead u) (at + 1) us rest m.1) (ap (λ k. lone_from (last_leads (is_lead u) us) k rest) (omega arith))

last_of : (after : Bool) (n : ℕ) (us : List ℕ) → suc n ≤ length us → last_leads after (take (suc n) us) ≡ is_lead (get_or us n 0)
last_of after n [] h = absurd (omega (arith, h))
last_of after zero (u ∷ us) h = refl
last_of after (suc n) (u ∷ us) h = last_of (is_lead u) n us (omega (arith, h))

-- the same along a slice
pub matched_at : (us : List ℕ) (n at a b : ℕ) → 1 ≤ at → at + n ≤ length us → a ≡ mask_l (map is_trail (take n (drop at us)))
    → b ≡ mask_l (map is_lead (take n (drop (at - 1) us))) → a ≡ b → Matched (is_lead (get_or us (at - 1) 0)) (take n (drop at us))
matched_at us n at a b some room t l e =
    let back : at - 1 + 1 ≡ at = omega arith in
    let before : drop (at - 1) us ≡ get_or us (at - 1) 0 ∷ drop at us =
    drop_more us (at - 1) 0 (omega (arith, some, room)) ∙ ap (λ k. get_or us (at - 1) 0 ∷ drop k us) back in
    matched n (get_or us (at - 1) 0) (drop at us) (omega (arith, room, length-drop at us)) (sym t ∙ e ∙ l ∙ ap (λ k. mask_l (map is_lead (take n k))) before)

-- the scan up to an index
pub record IsScanned (us : List ℕ) (at : ℕ) : Type 0 where
  pub some : 1 ≤ at
  pub within : at ≤ length us
  pub same : lone_from (is_lead (get_or us (at - 1) 0)) at (drop at us) ≡ first_lone us

pub begins : (us : List ℕ) → 1 ≤ length us → is_trail (get_or us 0 0) ≡ false → IsScanned us 1
begins [] h e = absurd (omega (arith, h))
begins (u ∷ us) h e =
    let same = sym (ap (λ k. cond k (Some 0) (lone_from (is_lead u) 1 us)) e) ∙ scanned (u ∷ us) in
    record { some = omega arith; within = h; same = same }

pub goes_on : {us : List ℕ} {at : ℕ} (n : ℕ) → IsScanned us at → 1 ≤ n → at + n ≤ length us
    → Matched (is_lead (get_or us (at - 1) 0)) (take n (drop at us)) → IsScanned us (at + n)
goes_on {us} {at} n s lanes room m =
    let before = is_lead (get_or us (at - 1) 0) in
    let block = take n (drop at us) in
    let whole : suc (n - 1) ≡ n = omega (arith, lanes) in
    let place : at + (n - 1) ≡ at + n - 1 = omega (arith, lanes) in
    let last : last_leads before block ≡ is_lead (get_or us (at + n - 1) 0) =
    ap (λ k. last_leads before (take k (drop at us))) (sym whole)
    ∙ last_of before (n - 1) (drop at us) (omega (arith, lanes, room, length-drop at us))
    ∙ ap is_lead (get_or-drop at us (n - 1) 0 ∙ ap (λ k. get_or us k 0) place) in
    record {
      some = omega (arith, s.some);
      within = room;
      same = sym (ap (lone_from before at) (chunk-drop at n us) ∙ past_matched before at block (drop (at + n) us) m
          ∙ ap₂ (λ k l. lone_from k (at + l) (drop (at + n) us)) last (length-chunk at n us room)) ∙ s.same;
    }
