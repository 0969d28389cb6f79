use Rattle.piece_rope.proofs.Prelude.{◌≡◌, ◌≤◌, ◌++◌, ◌+◌, ◌-◌, length, take, drop, vec_len, vec_capacity}
use Rattle.piece_rope.proofs.error_cursor.ErrorCursor.push_to.Given as goal

abbrev pub invariant-errors : goal.invariant-errors
invariant-errors l = record {
  high : l.count ≤ l.most;
  few : l.count ≤ length l.initial.self;
  places : l.places.items ≡ l.initial.places.items ++ take l.count l.initial.self;
  left : l.self ≡ drop l.count l.initial.self;
  len : vec_len l.places ≡ vec_len l.initial.places + l.count;
  capacity : vec_capacity l.places ≡ vec_capacity l.initial.places;
}

abbrev pub decreases-errors : goal.decreases-errors
decreases-errors l = l.most - l.count
