use Rattle.piece_rope.proofs.Prelude.{◌≡◌, ◌-◌, ◌≤◌, ◌++◌, ◌+◌, length, take, drop, slice_get, Some, Entry, bytes_of}
use Rattle.piece_rope.proofs.bytes.push_bytes.Given as goal

abbrev pub invariant-pieces : goal.invariant-pieces
invariant-pieces l = record {
  bytes : l.bytes.items ++ take l.left (drop l.skip (bytes_of (drop l.place l.pieces.items))) ≡ l.fn.bytes.items
      ++ take (l.to - l.from) (drop l.from (bytes_of l.pieces.items));
  enough : l.skip + l.left ≤ length (bytes_of (drop l.place l.pieces.items));
  within : (p : Entry) → slice_get l.pieces.items l.place ≡ Some p → l.skip ≤ length p.piece.bytes;
}

abbrev pub decreases-pieces : goal.decreases-pieces
decreases-pieces l = length l.pieces.items - l.place
