use Rattle.piece_rope.proofs.Prelude.{◌≡◌, ◌+◌, ◌-◌, ◌≤◌, ◌++◌, length, take, drop, CanJoin}
use Rattle.piece_rope.proofs.install.remove_range.Given as goal

abbrev pub invariant-range : goal.invariant-range
invariant-range l = record {
  within : l.first + l.left ≤ length l.pieces.items;
  items : take l.first l.pieces.items ++ drop (l.first + l.left) l.pieces.items ≡ take l.first l.initial.pieces.items ++ drop l.last l.initial.pieces.items;
  spare : l.pieces.spare + l.left ≡ l.initial.pieces.spare + (l.last - l.first);
  old : CanJoin l.pieces.items;
}

abbrev pub decreases-range : goal.decreases-range
decreases-range l = l.left
