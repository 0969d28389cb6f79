use Rattle.piece_rope.proofs.Prelude.{◌≡◌, ◌≤◌, ◌<◌, ◌+◌, ◌-◌, ◌++◌, min, take, drop, length, slice_get, Some, vec_len, vec_capacity, Run, errors_in}
use Rattle.piece_rope.proofs.Prelude.{items_of_run, items_of_runs, errors_at}
use Rattle.piece_rope.proofs.error_places.push_along.Given as goal

abbrev pub invariant-runs : goal.invariant-runs
invariant-runs l = record {
  high : l.count ≤ l.most;
  places : l.places.items ++ take (l.most - l.count) (drop l.skip (errors_at l.base l.begin (items_of_runs l.rest)))
      ≡ l.initial.places.items ++ take l.most (drop l.n (errors_at l.base l.from (items_of_runs l.runs)));
  size : l.count + min (l.most - l.count) (length (drop l.skip (errors_at l.base l.begin (items_of_runs l.rest))))
      ≡ min l.most (length (drop l.n (errors_at l.base l.from (items_of_runs l.runs))));
  there : (r : Run) → slice_get l.rest 0 ≡ Some r → l.skip < errors_in (items_of_run r);
  len : vec_len l.places ≡ vec_len l.initial.places + l.count;
  capacity : vec_capacity l.places ≡ vec_capacity l.initial.places;
}

abbrev pub decreases-runs : goal.decreases-runs
decreases-runs l = length l.rest
