use Rattle.piece_rope.proofs.Prelude.{◌≡◌, length, GoBack, before_all, room_of, tail_before, CanJoin}
use Rattle.piece_rope.proofs.undo.take_back.Given as goal

-- what is left to take back leads to the same pieces
abbrev pub invariant-edits : goal.invariant-edits
invariant-edits l = record {
  old : CanJoin l.pieces.items;
  steps : GoBack (room_of l.pieces) l.pieces.items l.log.items;
  pieces : before_all l.pieces.items l.log.items ≡ before_all l.initial.pieces.items l.fn.log.items;
  tail : tail_before l.tail l.log.items ≡ tail_before l.initial.tail l.fn.log.items;
}

abbrev pub decreases-edits : goal.decreases-edits
decreases-edits l = length l.log.items
