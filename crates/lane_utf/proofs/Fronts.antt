-- The code point at the front of units.
use Rattle.std.proofs.Common.{◌≡◌, refl, sym, ap, ◌∙◌, true≢false, ℕ, ◌+◌, ◌<◌, ◌≤◌, Bool, true, false, not, ◌&&◌, ◌||◌, List, [], ◌∷◌, None, cond, length}
use Rattle.std.proofs.Common.{drop, arith, get_or, Fits, w16, nat_lt, nat_le}
use Rattle.std.proofs.lemmas.{Bool.Decides.nat_tests, List.drop_more, List.get_or-drop}
use Rattle.lane_utf.specs.{Front.IsUtf16Front, Utf16.is_lead, Utf16.is_trail, Utf16.is_lone, Utf16.begins_with_trail, Utf16.first_lone, Utf16.first_lone_after}
use Rattle.lane_utf.{specs.Utf16.code_points, specs.Utf16.pair_code_point, proofs.Lone.no_first, proofs.Lone.trail_leads_none}

-- what is at the front if no unit is alone
not_lone : (lead trail begins : Bool) → (lead && not begins) || (trail && not false) ≡ false → (lead ≡ true → begins ≡ true) × (lead ≡ false → trail ≡ false)
not_lone true trail true e = (λ h. refl, λ h. cc)
not_lone false false begins e = (λ h. cc, λ h. refl)
not_lone lead trail begins e = cc

pub trails : (u : ℕ) (us : List ℕ) → first_lone (u ∷ us) ≡ None → (is_lead u ≡ true → begins_with_trail us ≡ true) × (is_lead u ≡ false → is_trail u ≡ false)
trails u us e = not_lone (is_lead u) (is_trail u) (begins_with_trail us) (no_first (is_lone false u us) (first_lone_after (is_lead u) us) e).0

single_first : (u : ℕ) (us : List ℕ) → is_lead u ≡ false → code_points (u ∷ us) ≡ u ∷ code_points us
single_first u [] e = refl
single_first u (v ∷ vs) e = rw e refl

single_scalar : (u : ℕ) → u < 65536 → is_lead u ≡ false → is_trail u ≡ false → cond (nat_lt u 55296) true (nat_le 57344 u && nat_lt u 1114112) ≡ true
single_scalar u h l t = grind (arith, nat_tests)

pub lead_bounds : (u : ℕ) → is_lead u ≡ true → (55296 ≤ u) × (u < 56320)
lead_bounds u l = grind (arith, nat_tests)

pub trail_bounds : (u : ℕ) → is_trail u ≡ true → (56320 ≤ u) × (u < 57344)
trail_bounds u l = grind (arith, nat_tests)

above_scalar : (c : ℕ) → 65536 ≤ c → c < 1114112 → cond (nat_lt c 55296) true (nat_le 57344 c && nat_lt c 1114112) ≡ true
above_scalar c low high = grind (arith, nat_tests)

pub single_front : (u : ℕ) (us : List ℕ) → u < 65536 → first_lone (u ∷ us) ≡ None → is_lead u ≡ false → IsUtf16Front (u ∷ us) u 1
single_front u us h e lead = record {
  scalar = single_scalar u h lead ((trails u us e).1 lead);
  some = omega arith;
  within = omega arith;
  first = single_first u us lead;
  paired = rw lead at (no_first (is_lone false u us) (first_lone_after (is_lead u) us) e).1;
}

pub pair_front : (u : ℕ) (us : List ℕ) → first_lone (u ∷ us) ≡ None → is_lead u ≡ true → IsUtf16Front (u ∷ us) (pair_code_point u (get_or us 0 0)) 2
pair_front u [] e lead = absurd (true≢false (sym ((trails u [] e).0 lead)))
pair_front u (v ∷ us) e lead =
    let trail : is_trail v ≡ true = (trails u (v ∷ us) e).0 lead in
    let l = lead_bounds u lead in
    let t = trail_bounds v trail in
    let behind : first_lone_after true (v ∷ us) ≡ None =
    rw lead at (no_first (is_lone false u (v ∷ us)) (first_lone_after (is_lead u) (v ∷ us)) e).1 in
    record {
      scalar = above_scalar (pair_code_point u v) (omega (arith, l, t)) (omega (arith, l, t));
      some = omega arith;
      within = omega arith;
      first = rw (lead, trail) refl;
      paired = rw (trail_leads_none v trail) at (no_first (is_lone true v us) (first_lone_after (is_lead v) us) behind).1;
    }

-- the same at an index
pub single_at : (us : List ℕ) (at c : ℕ) → at < length us → ((k : ℕ) → Fits w16 (get_or us k 0)) → first_lone (drop at us) ≡ None
    → c ≡ get_or us at 0 → is_lead (get_or us at 0) ≡ false → IsUtf16Front (drop at us) c 1
single_at us at c h fits e is lead =
    let more = drop_more us at 0 h in
    rw (is, more) (single_front (get_or us at 0) (drop (at + 1) us) (fits at).fits (rw more at e) lead)

pub pair_at : (us : List ℕ) (at u v : ℕ) → at < length us → first_lone (drop at us) ≡ None
    → u ≡ get_or us at 0 → v ≡ get_or us (at + 1) 0 → is_lead (get_or us at 0) ≡ true → IsUtf16Front (drop at us) (pair_code_point u v) 2
pair_at us at u v h e is second lead =
    let more = drop_more us at 0 h in
    let here : at + 1 + 0 ≡ at + 1 = omega arith in
    let trail : get_or (drop (at + 1) us) 0 0 ≡ v = get_or-drop (at + 1) us 0 0 ∙ ap (λ k. get_or us k 0) here ∙ sym second in
    rw (is, ← trail, more) (pair_front (get_or us at 0) (drop (at + 1) us) (rw more at e) lead)
