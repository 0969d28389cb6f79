use Rattle.std.proofs.Common.{◌≡◌, ℕ, ◌+◌, ◌≤◌, length, None}
use Rattle.index_loader.specs.FirstPointers.{first_in}
use Rattle.index_loader.proofs.first_pointers.last_up_to.Given as goal

abbrev pub invariant-loop-at : goal.invariant-loop-at
invariant-loop-at l = record {
  within : l.at ≤ length l.fn.cells;
  up_to : l.at ≤ l.fn.code_point + 1;
  none : (k : ℕ) → l.at ≤ k → k ≤ l.fn.code_point → first_in l.fn.cells k ≡ None;
}

abbrev pub decreases-loop-at : goal.decreases-loop-at
decreases-loop-at l = l.at
