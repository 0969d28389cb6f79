use Rattle.std.proofs.Common.{◌≡◌, ◌-◌, ◌≤◌, take, drop}
use Rattle.piece_rope.proofs.log.shared.Given as goal

abbrev pub invariant-pieces : goal.invariant-pieces
invariant-pieces l = record {
  from : l.first ≤ l.index;
  to : l.index ≤ l.last;
  shared : l.shared.items ≡ take (l.index - l.first) (drop l.first l.pieces.items);
}

abbrev pub decreases-pieces : goal.decreases-pieces
decreases-pieces l = l.last - l.index
