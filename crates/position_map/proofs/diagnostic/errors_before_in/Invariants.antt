use Rattle.position_map.proofs.{Words.◌≡◌, Words.◌+◌, Words.length, Words.all_scalars, Words.items_of_runs, Words.error_scalars, ErrorRuns.below}
use Rattle.position_map.proofs.diagnostic.errors_before_in.Given as goal

abbrev pub invariant-runs : goal.invariant-runs
invariant-runs l =
    (l.errors + below l.n (error_scalars l.scalars (items_of_runs l.runs)) ≡ below l.n (error_scalars l.from l.here.items))
    × (l.scalars + all_scalars (items_of_runs l.runs) ≡ l.from + all_scalars l.here.items)

abbrev pub decreases-runs : goal.decreases-runs
decreases-runs l = length l.runs
