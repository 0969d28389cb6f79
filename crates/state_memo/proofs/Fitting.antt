-- The sums of outcomes of few bytes fit.
use Rattle.std.proofs.Common.{◌+◌, ◌*◌, ◌^◌, ◌<◌, ◌≤◌, List, [], ◌∷◌, length, arith}
use Rattle.sum_tree.specs.Sums.{total}
use Rattle.state_memo.specs.Fitting.{total_of}
use Rattle.state_memo.proofs.Prelude.{Outcome, Sum, IsBounded, no_sum, joined, Fits}

module _ {T : Type 0} (sum_of : T → Sum) (bounded : (x : T) → IsBounded (sum_of x)) where
  total-utf8 : (xs : List T) → (total no_sum joined sum_of xs).utf8 ≤ 8 * (total no_sum joined sum_of xs).bytes + 64 * length xs
  total-utf8 [] = omega arith
  total-utf8 (x ∷ xs) = omega (arith, (bounded x).utf8, total-utf8 xs)

  total-errors : (xs : List T) → (total no_sum joined sum_of xs).errors ≤ 8 * (total no_sum joined sum_of xs).bytes + 64 * length xs
  total-errors [] = omega arith
  total-errors (x ∷ xs) = omega (arith, (bounded x).errors, total-errors xs)

  pub fits-total : (xs : List T) → (total no_sum joined sum_of xs).bytes + length xs < 2 ^ 26 → Fits (total no_sum joined sum_of xs)
  fits-total xs few = record {
    bytes = omega (arith, few);
    utf8 = omega (arith, few, total-utf8 xs);
    errors = omega (arith, few, total-errors xs);
  }

pub fits-total_of : (os : List Outcome) → (total_of os).bytes + length os < 2 ^ 26 → Fits (total_of os)
fits-total_of os few = fits-total (λ (o : Outcome). o.sum) (λ o. o.bounded) os few
