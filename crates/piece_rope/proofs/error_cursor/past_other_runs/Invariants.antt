use Rattle.piece_rope.proofs.Prelude.{◌≡◌, ◌≤◌, length, items_of_runs, errors_at, begin_behind}
use Rattle.piece_rope.proofs.error_cursor.past_other_runs.Given as goal

abbrev pub invariant-runs : goal.invariant-runs
invariant-runs l = (errors_at l.base (begin_behind l.base l.from l.last) (items_of_runs l.runs) ≡ errors_at l.base l.from (items_of_runs l.initial.runs))
    × (length l.runs ≤ length l.initial.runs)

abbrev pub decreases-runs : goal.decreases-runs
decreases-runs l = length l.runs
