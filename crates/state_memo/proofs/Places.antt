-- Where a state's outcome is remembered.
use Rattle.std.proofs.Common.{◌≡◌, refl, sym, ap, ◌∙◌, ℕ, zero, suc, ◌≤◌, ◌<◌, Bool, true, false, List, [], ◌∷◌, ◌++◌, length, drop, append-nil}
use Rattle.std.proofs.Common.{take, Option, Some, None, slice_get, option_map, is_some, arith, cond, nat_le}
use Rattle.std.proofs.lemmas.List.Edits.{length-remove}
use Rattle.state_memo.specs.Memo.{same_state, recalled, without, entered, fitting, IsSlot}
use Rattle.state_memo.proofs.Prelude.{remove, take_all, AnyState, Outcome, Known, cond-false, cond-true, nat_tests}

by-none : (b : Bool) (o : Outcome) (r : Option Outcome) → cond b (Some o) r ≡ None → (b ≡ false) × (r ≡ None)
by-none b o r e = (grind arith, grind arith)

pub place-at : (ks : List Known) (s : AnyState) (i : ℕ) (k : Known) → slice_get ks i ≡ Some k → recalled (take i ks) s ≡ None
    → same_state k.entry s ≡ true → IsSlot ks s i
place-at [] s i k at none same = absurd cc
place-at (x ∷ ks) s zero k at none same =
    let e : x ≡ k = cc in
    let t : same_state x.entry s ≡ true = rw e same in
    record { within = omega arith; found = cond-true _ _ _ t; others = cond-true _ _ _ t }
place-at (x ∷ ks) s (suc i) k at none same =
    let f = by-none (same_state x.entry s) x.outcome (recalled (take i ks) s) none in
    let p = place-at ks s i k at f.1 same in record {
      within = omega (arith, p.within);
      found = rw f.0 p.found;
      others = rw (f.0, p.others) refl;
    }

pub absent-more : (ks : List Known) (s : AnyState) (i : ℕ) (k : Known) → slice_get ks i ≡ Some k → recalled (take i ks) s ≡ None
    → same_state k.entry s ≡ false → recalled (take (suc i) ks) s ≡ None
absent-more [] s i k at none same = absurd cc
absent-more (x ∷ ks) s zero k at none same =
    let e : x ≡ k = cc in rw (e, same) refl
absent-more (x ∷ ks) s (suc i) k at none same =
    let f = by-none (same_state x.entry s) x.outcome (recalled (take i ks) s) none in
    cond-false _ _ _ f.0 ∙ absent-more ks s i k at f.1 same

pub without-absent : (ks : List Known) (s : AnyState) → recalled ks s ≡ None → without ks s ≡ ks
without-absent [] s none = refl
without-absent (x ∷ ks) s none =
    let f = by-none (same_state x.entry s) x.outcome (recalled ks s) none in
    rw (f.0, without-absent ks s f.1) refl

pub room-absent : (ks : List Known) (s : AnyState) → recalled ks s ≡ None → take 3 ks ≡ take 3 (without ks s)
room-absent ks s none = rw (without-absent ks s none) refl

pub room-found : (ks : List Known) (s : AnyState) (i : ℕ) → IsSlot ks s i → length ks ≤ 4 → remove ks i ≡ take 3 (without ks s)
room-found ks s i p few =
    rw p.others (sym (take_all 3 (remove ks i) (omega (arith, length-remove ks i p.within, few))))

-- what is kept at the place is what is recalled
pub outcome-at : (ks : List Known) (s : AnyState) (i : ℕ) (k : Known) → IsSlot ks s i → slice_get ks i ≡ Some k → Some k.outcome ≡ recalled ks s
outcome-at ks s i k p at = ap (option_map (λ (x : Known). x.outcome)) (sym at) ∙ sym p.found

pub some-at : (ks : List Known) (s : AnyState) (i : ℕ) (k : Known) → IsSlot ks s i → slice_get ks i ≡ Some k → true ≡ is_some (recalled ks s)
some-at ks s i k p at = ap is_some (outcome-at ks s i k p at)

pub entered-at : (ks : List Known) (s : AnyState) (i : ℕ) (k : Known) → IsSlot ks s i → slice_get ks i ≡ Some k
    → record { entry = s; outcome = k.outcome } ∷ remove ks i ≡ entered ks s
entered-at ks s i k p at =
    rw (← p.others, ← outcome-at ks s i k p at) refl

pub entered-absent : (ks : List Known) (s : AnyState) → recalled ks s ≡ None → ks ≡ entered ks s
entered-absent ks s none = rw none refl

stops-at : (ks : List Known) (left i : ℕ) (k : Known) → slice_get ks i ≡ Some k → left < k.outcome.memory → fitting left (drop i ks) ≡ []
stops-at [] left i k at more = absurd cc
stops-at (x ∷ ks) left zero k at more =
    let e : x ≡ k = cc in
    let t : nat_le k.outcome.memory left ≡ false = grind (arith, nat_tests, more) in
    rw (e, t) refl
stops-at (x ∷ ks) left (suc i) k at more = stops-at ks left i k at more

-- what fits ends before one for which there is no room left
pub fitting-at : (ks : List Known) (most left i : ℕ) (k : Known) → slice_get ks i ≡ Some k → fitting most ks ≡ take i ks ++ fitting left (drop i ks)
    → left < k.outcome.memory → take i ks ≡ fitting most ks
fitting-at ks most left i k at so_far more =
    rw (so_far, stops-at ks left i k at more, append-nil) refl
