use Rattle.std.proofs.Common.{◌≡◌, ◌+◌, drop, length, option_map}
use Rattle.state_memo.proofs.Prelude.{item_of, items_of_runs}
use Rattle.state_memo.proofs.run_walks.number_in.Given as goal

abbrev pub invariant-runs : goal.invariant-runs
invariant-runs l =
    (option_map (λ k. k + l.before) (item_of (items_of_runs (drop l.run-index l.runs)) l.left) ≡ item_of (items_of_runs l.runs) l.n)
    × (l.before + length (items_of_runs (drop l.run-index l.runs)) ≡ length (items_of_runs l.runs))
