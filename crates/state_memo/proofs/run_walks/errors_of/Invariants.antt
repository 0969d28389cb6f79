use Rattle.std.proofs.Common.{◌≡◌, ◌+◌, drop}
use Rattle.state_memo.proofs.Prelude.{errors_in, items_of_runs}
use Rattle.state_memo.proofs.run_walks.errors_of.Given as goal

abbrev pub invariant-runs : goal.invariant-runs
invariant-runs l = l.count + errors_in (items_of_runs (drop l.run-index l.runs)) ≡ errors_in (items_of_runs l.runs)
