use Rattle.piece_rope.proofs.Prelude.{◌≡◌, ◌≤◌, length, take, sums_of, last_from}
use Rattle.piece_rope.proofs.errors.end_before.Given as goal

abbrev pub invariant-pieces : goal.invariant-pieces
invariant-pieces l = record {
  within : l.left ≤ length l.pieces.items;
  base : l.base ≡ (sums_of (take l.left l.pieces.items)).bytes;
  last : last_from 0 l.bom (take l.left l.pieces.items) ≡ last_from 0 l.bom (take l.place l.pieces.items);
}

abbrev pub decreases-pieces : goal.decreases-pieces
decreases-pieces l = l.left
