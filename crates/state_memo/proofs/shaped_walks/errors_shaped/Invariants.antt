use Rattle.std.proofs.Common.{◌≡◌, ◌+◌, length}
use Rattle.state_memo.proofs.Prelude.{errors_in, items_of_runs}
use Rattle.state_memo.proofs.shaped_walks.errors_shaped.Given as goal

abbrev pub invariant-runs : goal.invariant-runs
invariant-runs l = l.count + errors_in (items_of_runs l.runs) ≡ errors_in (items_of_runs l.shaped)

abbrev pub decreases-runs : goal.decreases-runs
decreases-runs l = length l.runs
