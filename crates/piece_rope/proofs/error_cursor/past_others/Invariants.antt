use Rattle.piece_rope.proofs.Prelude.{◌≡◌, ◌≤◌, length, option_copied, items_of_runs, errors_at, begin_behind}
use Rattle.piece_rope.proofs.error_cursor.past_others.Given as goal

abbrev pub invariant-runs : goal.invariant-runs
invariant-runs l = (errors_at l.base (begin_behind l.base l.from (option_copied l.last)) (items_of_runs l.rest)
    ≡ errors_at l.base l.from (items_of_runs l.runs)) × (length l.rest ≤ length l.runs)

abbrev pub decreases-runs : goal.decreases-runs
decreases-runs l = length l.rest
