use Rattle.std.proofs.Common.{◌≡◌, ◌+◌, length}
use Rattle.state_memo.proofs.Prelude.{scalars_before, items_of_runs}
use Rattle.state_memo.proofs.shaped_walks.scalars_shaped.Given as goal

abbrev pub invariant-runs : goal.invariant-runs
invariant-runs l = l.count + scalars_before l.limit (items_of_runs l.runs) ≡ scalars_before l.limit (items_of_runs l.shaped)

abbrev pub decreases-runs : goal.decreases-runs
decreases-runs l = length l.runs
