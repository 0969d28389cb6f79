-- Sums of widths.
use Rattle.std.proofs.Common.{◌≡◌, refl, sym, ap, ◌∙◌, ℕ, suc, ◌+◌, ◌-◌, ◌*◌, ◌/◌, ◌%◌, ◌≤◌, true, false, List, [], ◌∷◌, ◌++◌, length, take, drop, arith}
use Rattle.std.proofs.Common.{length-append, None, Fits, w16, get_or, ◌<◌, Ok, Err, mul-le-mul_left}
use Rattle.std.proofs.{lemmas.Bool.Decides.nat_tests, Math.Utf8.encode, Math.Utf8.encodes, Math.Utf8.scalars}
use Rattle.std.proofs.lemmas.{Bool.le-leb, Bool.lt-leb, Bool.le-ltb, List.drop_more, List.length-drop, Simd.chunk-drop, Str.length-encode}
use Rattle.lane_utf.proofs.Fronts.{single_front, pair_front, trails, lead_bounds, trail_bounds}
use Rattle.lane_utf.{proofs.Putting.form_low, specs.Conversions.utf8_answer}
use Rattle.lane_utf.specs.Utf16.{is_lead, is_trail, code_points, pair_code_point, first_lone, utf16_form, utf16_forms}
use Rattle.lane_utf.specs.{Weights.unit_weight, Widths.total_width, Widths.utf8_width, declared.faults.ToUtf8Fault.TheVariants.NeedsRoom as needs_room}
use Rattle.lemmas.proofs.{Bools.by_test, Recursion.sum-append, Recursion.sum-few}

pub weight-le : (u : ℕ) → unit_weight u ≤ 3
weight-le u = grind (arith, nat_tests)

pub units-bound : (us : List ℕ) → total_width unit_weight us ≤ 3 * length us
units-bound = sum-few (total_width unit_weight) _ refl (λ _ _. refl) 3 weight-le

pub units-least : (us : List ℕ) → length us ≤ total_width unit_weight us
units-least [] = omega arith
units-least (u ∷ us) = grind (arith, nat_tests, units-least us)

single_weight : (u : ℕ) → u < 65536 → is_lead u ≡ false → is_trail u ≡ false → unit_weight u ≡ utf8_width u
single_weight u h l t = grind (arith, nat_tests)

weight_of_pair : (u v c : ℕ) → 55296 ≤ u → u < 57344 → 55296 ≤ v → v < 57344 → 65536 ≤ c → unit_weight u + unit_weight v ≡ utf8_width c
weight_of_pair u v c l h m k n = grind (arith, nat_tests)

-- what holds of units without a lone surrogate
pub record IsPaired (us : List ℕ) : Type 0 where
  pub total : total_width unit_weight us ≡ total_width utf8_width (code_points us)
  pub are_scalars : scalars (code_points us) ≡ true
  pub form : utf16_forms (code_points us) ≡ us

form_of_pair : (u v : ℕ) (rest : List ℕ) → is_lead u ≡ true → is_trail v ≡ true → utf16_form (pair_code_point u v) ++ rest ≡ u ∷ v ∷ rest
form_of_pair u v rest e f =
    let l = lead_bounds u e in
    let t = trail_bounds v f in
    let c = pair_code_point u v in
    let first : 0xD800 + (c - 0x10000) / 0x400 ≡ u = omega (arith, l, t) in
    let second : 0xDC00 + (c - 0x10000) % 0x400 ≡ v = omega (arith, l, t) in
    rw (le-ltb c 65536 (omega arith)) (ap (λ k. k ∷ (0xDC00 + (c - 0x10000) % 0x400) ∷ rest) first ∙ ap (λ k. u ∷ k ∷ rest) second)

single_paired : (u : ℕ) (us : List ℕ) → u < 65536 → first_lone (u ∷ us) ≡ None → is_lead u ≡ false → IsPaired us → IsPaired (u ∷ us)
single_paired u us h e lead more =
    let front = single_front u us h e lead in
    record {
      total = omega (arith, single_weight u h lead ((trails u us e).1 lead), more.total, ap (total_width utf8_width) front.first);
      are_scalars = rw (front.first, front.scalar, more.are_scalars) refl;
      form = rw (front.first, form_low u h, more.form) refl;
    }

pair_paired : (u v : ℕ) (us : List ℕ) → first_lone (u ∷ v ∷ us) ≡ None → is_lead u ≡ true → IsPaired us → IsPaired (u ∷ v ∷ us)
pair_paired u v us e lead more =
    let front = pair_front u (v ∷ us) e lead in
    let trail = (trails u (v ∷ us) e).0 lead in
    let l = lead_bounds u lead in
    let t = trail_bounds v trail in
    let same = weight_of_pair u v (pair_code_point u v) l.0 (omega (arith, l)) (omega (arith, t)) t.1 (omega arith) in
    record {
      total = omega (arith, same, more.total, ap (total_width utf8_width) front.first);
      are_scalars = rw (front.first, front.scalar, more.are_scalars) refl;
      form = rw front.first (form_of_pair u v (utf16_forms (code_points us)) lead trail ∙ ap (λ k. u ∷ v ∷ k) more.form);
    }

pub paired : (us : List ℕ) → ((k : ℕ) → Fits w16 (get_or us k 0)) → first_lone us ≡ None → IsPaired us
paired [] fits e = record { total = refl; are_scalars = refl; form = refl }
paired (u ∷ []) fits e =
    by_test (is_lead u) (λ lead. absurd (omega (arith, (pair_front u [] e lead).within)))
    (λ lead. single_paired u [] (fits 0).fits e lead (paired [] (λ k. fits (suc k)) refl))
paired (u ∷ v ∷ us) fits e =
    by_test (is_lead u) (λ lead. pair_paired u v us e lead (paired us (λ k. fits (suc (suc k))) (pair_front u (v ∷ us) e lead).paired))
    (λ lead. single_paired u (v ∷ us) (fits 0).fits e lead (paired (v ∷ us) (λ k. fits (suc k)) (single_front u (v ∷ us) (fits 0).fits e lead).paired))

-- the bytes of UTF-8
pub encodes-width : (cs : List ℕ) → length (encodes cs) ≡ total_width utf8_width cs
encodes-width [] = refl
encodes-width (c ∷ cs) = omega (arith, length-append (encode c) (encodes cs), length-encode c, encodes-width cs)

module _ (us : List ℕ) (fits : (k : ℕ) → Fits w16 (get_or us k 0)) (e : first_lone us ≡ None) where
  pub paired-bytes : length (encodes (code_points us)) ≡ total_width unit_weight us
  paired-bytes = encodes-width (code_points us) ∙ sym (paired us fits e).total

  -- the answers
  whole : (needed : ℕ) → needed ≡ total_width unit_weight us → total_width utf8_width (code_points us) ≡ needed
  whole needed n = sym (n ∙ (paired us fits e).total)

  pub has_room : (needed room : ℕ) → needed ≡ total_width unit_weight us → needed ≤ room → Ok needed ≡ utf8_answer us room
  has_room needed room n h = rw (e, whole needed n, le-leb needed room h) refl

  pub lacks_room : (needed room : ℕ) → needed ≡ total_width unit_weight us → room < needed → Err (needs_room needed) ≡ utf8_answer us room
  lacks_room needed room n h = rw (e, whole needed n, lt-leb needed room h) refl

-- The items from index `from` to `at` weigh `sum`.
pub record IsSum (width : ℕ → ℕ) (xs : List ℕ) (from at sum : ℕ) : Type 0 where
  pub within : at ≤ length xs
  pub same : sum + total_width width (drop at xs) ≡ total_width width (drop from xs)

module _ {width : ℕ → ℕ} {xs : List ℕ} {from at sum : ℕ} (s : IsSum width xs from at sum) where
  pub block_summed : (n : ℕ) {r : ℕ} → at + n ≤ length xs → r ≡ total_width width (take n (drop at xs)) → IsSum width xs from (at + n) (sum + r)
  block_summed n room is = record {
    within = room;
    same = omega (
      arith,
      s.same,
      is,
      ap (total_width width) (chunk-drop at n xs),
      sum-append (total_width width) _ refl (λ _ _. refl) (take n (drop at xs)) (drop (at + n) xs),
    );
  }

  pub one_summed : {r : ℕ} → at < length xs → r ≡ width (get_or xs at 0) → IsSum width xs from (at + 1) (sum + r)
  one_summed room is = record { within = omega arith; same = omega (arith, s.same, is, ap (total_width width) (drop_more xs at 0 room)) }

  pub sum_bound : (n : ℕ) → ((x : ℕ) → width x ≤ n) → sum + total_width width (drop at xs) ≤ n * length xs
  sum_bound n h =
      let less : length (drop from xs) ≤ length xs = omega (arith, length-drop from xs) in
      omega (arith, s.same, sum-few (total_width width) _ refl (λ _ _. refl) n h (drop from xs), mul-le-mul_left n less)
