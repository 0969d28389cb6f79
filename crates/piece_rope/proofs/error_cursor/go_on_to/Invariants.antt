use Rattle.piece_rope.proofs.Prelude.{◌≡◌, drop, length, items_of_runs, errors_at}
use Rattle.piece_rope.proofs.error_cursor.go_on_to.Given as goal

abbrev pub invariant-runs : goal.invariant-runs
invariant-runs l = drop l.left (errors_at l.base l.begin (items_of_runs l.runs)) ≡ drop l.n (errors_at l.base l.from (items_of_runs l.fn.runs))

abbrev pub decreases-runs : goal.decreases-runs
decreases-runs l = length l.runs
