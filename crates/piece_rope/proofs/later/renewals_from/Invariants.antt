use Rattle.piece_rope.proofs.Prelude.{◌≡◌, ◌+◌, ◌-◌, ◌≤◌, length, take, drop, Chain, AreRenewed, renewed, state_after, bytes_of, texts_of, Passed, GoesOn}
use Rattle.piece_rope.proofs.later.renewals_from.Given as goal

abbrev pub invariant-pieces : goal.invariant-pieces
invariant-pieces l = record {
  at : l.index ≡ l.first + length l.renewals.items;
  within : l.index ≤ length l.pieces.items;
  kept : AreRenewed (drop l.first l.pieces.items) l.renewals.items;
  chain : Chain l.decoder l.fn.entry (renewed (take (length l.renewals.items) (drop l.first l.pieces.items)) l.renewals.items);
  state : l.state ≡ state_after l.decoder l.fn.entry (take (length l.renewals.items) (drop l.first l.pieces.items));
  passed : Passed l.decoder l.fn.entry (drop l.first l.pieces.items) l.fn.meter l.meter;
  most : l.meter ≤ l.fn.meter + length (bytes_of (take (length l.renewals.items) (drop l.first l.pieces.items)));
  least : l.fn.meter ≤ l.meter;
  on : GoesOn l.fn.ahead (texts_of (renewed (take (length l.renewals.items) (drop l.first l.pieces.items)) l.renewals.items)) l.left;
}

abbrev pub decreases-pieces : goal.decreases-pieces
decreases-pieces l = length l.pieces.items - l.index
