use Rattle.piece_rope.proofs.Prelude.{◌≡◌, ◌≤◌, ◌+◌, ◌-◌, ◌++◌, take, drop, vec_len, vec_capacity, items_of_run, errors_at}
use Rattle.piece_rope.proofs.error_places.push_run.Given as goal

abbrev pub invariant-items : goal.invariant-items
invariant-items l = record {
  high : l.done ≤ l.count;
  places : l.places.items ≡ l.initial.places.items ++ take l.done (drop l.n (errors_at l.base l.from (items_of_run l.run)));
  len : vec_len l.places ≡ vec_len l.initial.places + l.done;
  capacity : vec_capacity l.places ≡ vec_capacity l.initial.places;
}

abbrev pub decreases-items : goal.decreases-items
decreases-items l = l.count - l.done
