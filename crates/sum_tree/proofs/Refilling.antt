-- A run of elements put into a list is put into the parts that the list is joined of.
use Rattle.std.proofs.Common.{◌≡◌, ℕ, zero, suc, ◌+◌, ◌-◌, ◌^◌, ◌<◌, ◌≤◌, List, [], ◌∷◌, ◌++◌, length, take, drop, min, ap, sym, ◌∙◌, refl, arith, append_assoc}
use Rattle.std.proofs.Common.{length-append, length-drop, length-take-le, take-append-drop, drop_at}
use Rattle.sum_tree.specs.{Refilled.with_run, Refilled.IsRefilled, Refilled.CanRefill, Sums.MonoidLaws, Sums.AllRunsFit, Sums.IsSummable}
use Rattle.sum_tree.proofs.Totals.{summable_front, summable_back, summable_as, summable_runs}

-- places from one to another lie in a first part from i to j, and after it from k to l
pub record IsCut {T : Type 0} (a : List T) (from to i j k l : ℕ) : Type 0 where
  pub order : from ≤ to
  pub start : i ≡ min from (length a)
  pub end : j ≡ min to (length a)
  pub start_behind : k ≡ from - length a
  pub end_behind : l ≡ to - length a

pub cut_behind : {T : Type 0} {a : List T} {from to : ℕ} (k l : ℕ) → from ≤ to → k ≡ from - length a → l ≡ to - length a
    → IsCut a from to (min from (length a)) (min to (length a)) k l
cut_behind k l o ek el = record { order = o; start = refl; end = refl; start_behind = ek; end_behind = el }

run_cut : {T : Type 0} (a b ra rb : List T) (from to i j k l : ℕ) → IsCut a from to i j k l → length ra + i ≡ j → length rb + k ≡ l
    → with_run (a ++ b) from to (ra ++ rb) ≡ with_run a i j ra ++ with_run b k l rb
run_cut [] b [] rb from to zero zero k l c ca cb = let start : from ≡ k = omega arith in let end : to ≡ l = omega arith in cc
run_cut (x ∷ a) b [] [] zero zero zero zero zero zero c ca cb = refl
run_cut (x ∷ a) b (y ∷ ra) rb zero (suc to) zero (suc j) k l c ca cb =
    let rest : IsCut a zero to zero j k l =
    record { order = omega arith; start = omega arith; end = omega arith; start_behind = omega arith; end_behind = omega arith } in
    ap (λ (ys : List _). y ∷ ys) (run_cut a b ra rb zero to zero j k l rest (omega arith) cb)
run_cut (x ∷ a) b ra rb (suc from) (suc to) (suc i) (suc j) k l c ca cb =
    let rest : IsCut a from to i j k l =
    record { order = omega arith; start = omega arith; end = omega arith; start_behind = omega arith; end_behind = omega arith } in
    ap (λ (ys : List _). x ∷ ys) (run_cut a b ra rb from to i j k l rest (omega arith) cb)
run_cut a b ra rb from to i j k l c ca cb = absurd (omega arith)

-- two parts refilled, the last one first, are the whole refilled
pub joined : {T : Type 0} {xs a b za zb old between new : List T} (from to : ℕ) {i j k l : ℕ} → xs ≡ a ++ b → IsRefilled b k l old between zb
    → IsRefilled a i j between new za → IsCut a from to i j k l → IsRefilled xs from to old new (za ++ zb)
joined {a = a} {b = b} {new = new} from to {i} {j} {k} {l} e rb ra cut = record {
  run = ra.run ++ rb.run;
  taken = rb.taken ∙ ap (λ (ys : List _). ys ++ rb.run) ra.taken ∙ append_assoc new ra.run rb.run;
  count = omega (arith, length-append ra.run rb.run, ra.count, rb.count);
  list =
      let whole = run_cut a b ra.run rb.run from to i j k l cut ra.count rb.count in
      let za_is = ra.list in
      let zb_is = rb.list in
      cc;
}

pub refilled_fits : {T S : Type 0} {fits : S → Type 0} {unit : S} {op : S → S → S} {sum_of : T → S} {xs old new zs : List T} {from to : ℕ}
    → CanRefill fits unit op sum_of xs from to old → IsRefilled xs from to old new zs → IsSummable fits unit op sum_of zs
refilled_fits {new = new} can r = summable_as (sym r.list) (can.each new r.run r.taken r.count)

module _ {T S : Type 0} {fits : S → Type 0} {unit : S} {op : S → S → S} {sum_of : T → S} {xs a old : List T} {from to i j k l : ℕ}
    (laws : MonoidLaws unit op) (b : List T) (e : xs ≡ a ++ b) (can : CanRefill fits unit op sum_of xs from to old) (cut : IsCut a from to i j k l) where
  both : (rest ra rb : List T) → old ≡ rest ++ (ra ++ rb) → length ra + i ≡ j → length rb + k ≡ l
      → IsSummable fits unit op sum_of (with_run a i j ra ++ with_run b k l rb)
  both rest ra rb all ca cb =
      summable_as (ap (λ (ys : List T). with_run ys from to (ra ++ rb)) e ∙ run_cut a b ra rb from to i j k l cut ca cb)
      (can.each rest (ra ++ rb) all (omega (arith, length-append ra rb)))

  -- the last part can be refilled if there are enough elements for both
  pub can_back : ((a b : S) → fits (op a b) → fits b) → to ≤ length old + from → CanRefill fits unit op sum_of b k l old
  can_back right enough = record {
    each = λ rest rb all cb.
        let n = length rest - (j - i) in
        let front = take-append-drop n rest in
        let long = length-append rest rb in
        let whole = ap length all in
        let ca : length (drop n rest) + i ≡ j = omega (arith, length-drop n rest) in
        let parts : old ≡ take n rest ++ (drop n rest ++ rb) = all ∙ ap (λ (ys : List T). ys ++ rb) (sym front) ∙ append_assoc (take n rest) (drop n rest) rb in
        summable_back laws sum_of right _ _ _ refl (both (take n rest) (drop n rest) rb parts ca cb);
  }

  -- and then the first one, where the last was refilled
  pub can_first : {new zb : List T} → ((a b : S) → fits (op a b) → fits a) → IsRefilled b k l old new zb → CanRefill fits unit op sum_of a i j new
  can_first left r = record {
    each = λ rest ra all ca. summable_front laws sum_of left _ _ _ refl
        (both rest ra r.run (r.taken ∙ ap (λ (ys : List T). ys ++ r.run) all ∙ append_assoc rest ra r.run) ca r.count);
  }

-- there are enough elements left for the first part
pub enough_front : {T : Type 0} {a b old new zb : List T} {from to i j k l : ℕ} → IsCut a from to i j k l → IsRefilled b k l old new zb
    → to ≤ length old + from → j ≤ length new + i
enough_front {new = new} cut r enough = let long = ap length r.taken ∙ length-append new r.run in omega (arith, r.count)

pub length_with_run : {T : Type 0} (xs run : List T) (from to : ℕ) → to ≤ length xs → length run + from ≡ to → length (with_run xs from to run) ≡ length xs
length_with_run xs run from to within count =
    let front = length-append (take from xs) (run ++ drop to xs) in
    let back = length-append run (drop to xs) in
    omega (arith, length-take-le from xs (omega arith), length-drop to xs)

pub refilled_as : {T : Type 0} {xs old new zs ys : List T} {from to : ℕ} → ys ≡ zs → IsRefilled xs from to old new zs → IsRefilled xs from to old new ys
refilled_as e r = record { run = r.run; taken = r.taken; count = r.count; list = e ∙ r.list }

-- a list can be refilled by the last elements where the list that it becomes fits
pub can_last : {T S : Type 0} {fits : S → Type 0} {unit : S} {op : S → S → S} (laws : MonoidLaws unit op) (sum_of : T → S)
    (xs ys old : List T) (from to : ℕ) → xs ≡ ys → to ≤ length xs
    → AllRunsFit fits unit op sum_of (with_run xs from to (drop (length old - (to - from)) old)) → length xs < 2 ^ 32
    → CanRefill fits unit op sum_of ys from to old
can_last {T} laws sum_of xs ys old from to e within fit short = record {
  each = λ rest run all count.
      let n : length rest ≡ length old - (to - from) = omega (arith, ap length all, length-append rest run) in
      let last : drop (length old - (to - from)) old ≡ run = ap (drop (length old - (to - from))) all ∙ drop_at rest run _ n in
      let same : with_run xs from to (drop (length old - (to - from)) old) ≡ with_run ys from to run =
      ap (λ (zs : List T). with_run xs from to zs) last ∙ ap (λ (zs : List T). with_run zs from to run) e in
      let long = ap length same ∙ ap length (ap (λ (zs : List T). with_run zs from to run) (sym e)) ∙ length_with_run xs run from to within count in
      summable_runs laws sum_of _ _ same fit (omega arith);
}
