use Rattle.piece_rope.proofs.Prelude.{◌≡◌, ◌+◌, ◌≤◌, ◌<◌, ◌++◌, ◌^◌, ◌-◌, min, length, Chain, state_after, bytes_of, AreSized, longest, shortest}
use Rattle.piece_rope.proofs.fresh.fresh_pieces.Given as goal

abbrev pub invariant-rest : goal.invariant-rest
invariant-rest l = record {
  bytes : bytes_of l.pieces.items ++ l.rest ≡ l.bytes;
  chain : Chain l.decoder l.fn.entry l.pieces.items;
  state : l.state ≡ state_after l.decoder l.fn.entry l.pieces.items;
  small : AreSized 1 l.pieces.items;
  wide : shortest ≤ length l.bytes → AreSized shortest l.pieces.items;
  room : shortest ≤ length l.bytes → 0 < length l.rest → shortest ≤ length l.rest;
  few : length l.bytes ≤ longest → (length l.pieces.items ≤ 1) × (0 < length l.pieces.items → length l.rest ≡ 0);
  exact : min (l.fn.meter + length (bytes_of l.pieces.items)) (2 ^ 64 - 1) ≤ l.meter;
  most : l.meter + length l.rest ≤ l.fn.meter + length l.bytes;
  least : l.fn.meter ≤ l.meter;
}

abbrev pub decreases-rest : goal.decreases-rest
decreases-rest l = length l.rest
