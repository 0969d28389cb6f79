use Rattle.std.proofs.Common.{◌≡◌, ◌≤◌, take, length}
use Rattle.state_memo.proofs.{Prelude.vec_len, Prelude.vec_capacity, Shapes.AreShaped}
use Rattle.state_memo.proofs.shaped.Shaped.of.Given as goal

abbrev pub invariant-runs : goal.invariant-runs
invariant-runs l = AreShaped l.found.items l.numbers.items l.from l.last (take l.run-index l.runs)
    × (vec_len l.numbers ≡ l.run-index) × (length l.runs ≤ vec_capacity l.numbers)
