use Rattle.piece_rope.proofs.Prelude.{◌≡◌, ◌≤◌, ◌+◌, ◌-◌, ◌++◌, length, take, drop, slice_get, Some, Entry, here_of, sums_of, all_errors, errors_at, last_from}
use Rattle.piece_rope.proofs.Erring.{errors_rest}
use Rattle.std.proofs.Common.{vec_len, vec_capacity}
use Rattle.piece_rope.proofs.errors.errors_between.Given as goal

abbrev pub invariant-pieces : goal.invariant-pieces
invariant-pieces l = record {
  places : l.places.items ++ take l.left (drop l.skip (errors_rest l.bom l.pieces.items l.tail l.place))
      ≡ take (l.to - l.from) (drop l.from (all_errors l.bom l.pieces.items l.tail));
  enough : l.skip + l.left ≤ length (errors_rest l.bom l.pieces.items l.tail l.place);
  within : (p : Entry) → slice_get l.pieces.items l.place ≡ Some p
      → l.skip ≤ length (errors_at (sums_of (take l.place l.pieces.items)).bytes (last_from 0 l.bom (take l.place l.pieces.items)) (here_of p).items);
  base : l.base ≡ (sums_of (take l.place l.pieces.items)).bytes;
  begin : l.begin ≡ last_from 0 l.bom (take l.place l.pieces.items);
  place : l.place ≤ length l.pieces.items;
  room : vec_len l.places + l.left ≤ vec_capacity l.places;
}

abbrev pub decreases-pieces : goal.decreases-pieces
decreases-pieces l = length l.pieces.items - l.place
