-- Sums, measured by their errors.
use Rattle.std.specs.Prelude.{◌≡◌, ℕ, ◌≤◌}
use Rattle.std.proofs.Common.{arith, refl}
use Rattle.state_memo.specs.{declared.sum.Sum.Sum, Sums.joined, Sums.no_sum}
use Rattle.piece_rope.specs.declared.errors.ErrorCount.{ErrorCount}

abbrev pub errors_of_sum : ErrorCount → Sum → ℕ
errors_of_sum count s = s.errors

pub errors-zero : (count : ErrorCount) → errors_of_sum count no_sum ≡ 0
errors-zero count = refl

pub errors-more : (count : ErrorCount) (a b : Sum) → errors_of_sum count a ≤ errors_of_sum count (joined a b)
errors-more count a b = Prim.omega arith
