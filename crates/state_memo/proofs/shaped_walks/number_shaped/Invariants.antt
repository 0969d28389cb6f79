use Rattle.std.proofs.Common.{◌≡◌, ◌+◌, length, option_map}
use Rattle.state_memo.proofs.Prelude.{item_of, items_of_runs}
use Rattle.state_memo.proofs.shaped_walks.number_shaped.Given as goal

abbrev pub invariant-runs : goal.invariant-runs
invariant-runs l =
    (option_map (λ k. k + l.before) (item_of (items_of_runs l.runs) l.left) ≡ item_of (items_of_runs l.shaped) l.n)
    × (l.before + length (items_of_runs l.runs) ≡ length (items_of_runs l.shaped))

abbrev pub decreases-runs : goal.decreases-runs
decreases-runs l = length l.runs
