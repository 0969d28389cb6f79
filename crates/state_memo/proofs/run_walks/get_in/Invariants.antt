use Rattle.std.proofs.Common.{◌≡◌, drop, slice_get}
use Rattle.state_memo.specs.Runs.{items_of_runs}
use Rattle.state_memo.proofs.run_walks.get_in.Given as goal

abbrev pub invariant-runs : goal.invariant-runs
invariant-runs l = slice_get (items_of_runs (drop l.run-index l.runs)) l.left ≡ slice_get (items_of_runs l.runs) l.k
