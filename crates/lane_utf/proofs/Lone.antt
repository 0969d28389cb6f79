-- The scan finds the first lone surrogate.
use Rattle.std.proofs.Common.{◌≡◌, refl, sym, ap, ◌∙◌, ℕ, zero, suc, ◌+◌, ◌-◌, Bool, true, false, not, ◌&&◌, ◌||◌, List, [], ◌∷◌, Option, Some, None, cond}
use Rattle.std.{proofs.Common.take, proofs.Common.arith, proofs.Common.IfSome, specs.Option.option_map}
use Rattle.std.proofs.lemmas.Bool.{cases_Bool, Decides.nat_tests}
use Rattle.lane_utf.specs.{Scan.lone_from, Utf16.is_lead, Utf16.is_trail, Utf16.is_lone, Utf16.begins_with_trail, Utf16.first_lone, Utf16.first_lone_after}

pub trail_leads_none : (u : ℕ) → is_trail u ≡ true → is_lead u ≡ false
trail_leads_none u t = grind (arith, nat_tests)

-- one index later
later : (at : ℕ) (o : Option ℕ) → option_map (λ i. at + 1 + i) o ≡ option_map (λ i. at + i) (option_map (λ i. i + 1) o)
later at None = refl
later at (Some i) = ap Some (omega arith)

-- One unit, if the scan from the next gives r, and the first lone surrogate there is o: after a lead, and elsewhere.
step_pending : (lead trail pair : Bool) (at : ℕ) (o r : Option ℕ) → (trail ≡ true → lead ≡ false)
    → r ≡ cond (lead && not pair) (Some (at + 1 - 1)) (option_map (λ i. at + 1 + i) o) → cond trail r (Some (at - 1))
    ≡ cond (not trail) (Some (at - 1)) (option_map (λ i. at + i) (cond ((lead && not pair) || (trail && false)) (Some 0) (option_map (λ i. i + 1) o)))
step_pending lead trail pair at o r h e = grind (arith, cases_Bool lead, cases_Bool trail, h, e, later at o)

step : (lead trail pair : Bool) (at : ℕ) (o r : Option ℕ) → (trail ≡ true → lead ≡ false)
    → r ≡ cond (lead && not pair) (Some (at + 1 - 1)) (option_map (λ i. at + 1 + i) o)
    → cond trail (Some at) r ≡ option_map (λ i. at + i) (cond ((lead && not pair) || (trail && true)) (Some 0) (option_map (λ i. i + 1) o))
step lead trail pair at o r h e = grind (arith, cases_Bool lead, cases_Bool trail, cases_Bool pair, h, e, later at o)

scan_is : (after : Bool) (at : ℕ) (us : List ℕ)
    → lone_from after at us ≡ cond (after && not (begins_with_trail us)) (Some (at - 1)) (option_map (λ i. at + i) (first_lone_after after us))
scan_is true at [] = refl
scan_is false at [] = refl
scan_is true at (u ∷ us) = step_pending (is_lead u) (is_trail u) (begins_with_trail us) at (first_lone_after (is_lead u) us) _ (trail_leads_none u)
    (scan_is (is_lead u) (at + 1) us)
scan_is false at (u ∷ us) = step (is_lead u) (is_trail u) (begins_with_trail us) at (first_lone_after (is_lead u) us) _ (trail_leads_none u)
    (scan_is (is_lead u) (at + 1) us)

from_front : (o : Option ℕ) → option_map (λ i. 0 + i) o ≡ o
from_front None = refl
from_front (Some i) = ap Some (omega arith)

pub scanned : (us : List ℕ) → lone_from false 0 us ≡ first_lone us
scanned us = scan_is false 0 us ∙ from_front (first_lone us)

-- What the first answer says of the next units.
not_first : (lone : Bool) (o : Option ℕ) (j : ℕ) → cond lone (Some 0) (option_map (λ i. i + 1) o) ≡ Some (suc j) → (lone ≡ false) × (o ≡ Some j)
not_first true o j e = let z : 0 ≡ suc j = cc in absurd (omega (arith, z))
not_first false None j e = cc
not_first false (Some i) j e = let z : i + 1 ≡ suc j = cc in (refl, ap Some (omega (arith, z)))

pub no_first : (lone : Bool) (o : Option ℕ) → cond lone (Some 0) (option_map (λ i. i + 1) o) ≡ None → (lone ≡ false) × (o ≡ None)
no_first false None e = (refl, refl)
no_first lone o e = cc

pub none_first : (lone : Bool) (o : Option ℕ) → lone ≡ false → o ≡ None → cond lone (Some 0) (option_map (λ i. i + 1) o) ≡ None
none_first lone o e f = rw (e, f) refl

-- the unit after a lead isn't the first lone surrogate if it trails
second_trails : (v : ℕ) (vs : List ℕ) → is_trail v ≡ true → first_lone_after true (v ∷ vs) ≡ Some 0 → ⊥
second_trails v vs t e =
    let l = trail_leads_none v t in
    not_zero (first_lone_after false vs) (rw (l, t) at e)
  where
    not_zero : (o : Option ℕ) → option_map (λ i. i + 1) o ≡ Some 0 → ⊥
    not_zero None e = cc
    not_zero (Some i) e = let z : i + 1 ≡ 0 = cc in omega (arith, z)

still_paired : (after lead trail : Bool) (us : List ℕ) (j : ℕ) → (lead && not (begins_with_trail us)) || (trail && not after) ≡ false
    → first_lone_after lead us ≡ Some j → (lead && not (begins_with_trail (take j us))) || (trail && not after) ≡ false
still_paired after false trail us j e f = e
still_paired after true trail [] j e f = cc
still_paired after true trail (v ∷ vs) zero e f = absurd (second_trails v vs (grind (arith, cases_Bool (is_trail v), e)) f)
still_paired after true trail (v ∷ vs) (suc k) e f = e

pub front_paired : (after : Bool) (us : List ℕ) (i : ℕ) → first_lone_after after us ≡ Some i → first_lone_after after (take i us) ≡ None
front_paired after [] i e = cc
front_paired after (u ∷ us) zero e = refl
front_paired after (u ∷ us) (suc j) e =
    let more = not_first (is_lone after u us) (first_lone_after (is_lead u) us) j e in
    none_first _ _ (still_paired after (is_lead u) (is_trail u) us j more.0 more.1) (front_paired (is_lead u) us j more.1)

pub front_of : (us : List ℕ) (o : Option ℕ) → o ≡ first_lone us → IfSome o (λ i. first_lone (take i us) ≡ None)
front_of us None e = tt
front_of us (Some i) e = front_paired false us i (sym e)
