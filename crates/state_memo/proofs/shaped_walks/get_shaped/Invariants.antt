use Rattle.std.proofs.Common.{◌≡◌, length, slice_get}
use Rattle.state_memo.specs.Runs.{items_of_runs}
use Rattle.state_memo.proofs.shaped_walks.get_shaped.Given as goal

abbrev pub invariant-runs : goal.invariant-runs
invariant-runs l = slice_get (items_of_runs l.runs) l.left ≡ slice_get (items_of_runs l.shaped) l.k

abbrev pub decreases-runs : goal.decreases-runs
decreases-runs l = length l.runs
