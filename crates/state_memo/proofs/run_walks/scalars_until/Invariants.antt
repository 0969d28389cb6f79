use Rattle.std.proofs.Common.{◌≡◌, ◌+◌, drop}
use Rattle.state_memo.proofs.Prelude.{scalars_before, items_of_runs}
use Rattle.state_memo.proofs.run_walks.scalars_until.Given as goal

abbrev pub invariant-runs : goal.invariant-runs
invariant-runs l = l.count + scalars_before l.limit (items_of_runs (drop l.run-index l.runs)) ≡ scalars_before l.limit (items_of_runs l.runs)
