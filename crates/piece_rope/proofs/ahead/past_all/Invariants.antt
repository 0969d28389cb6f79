use Rattle.piece_rope.proofs.Prelude.{◌-◌, ◌≤◌, length, take, texts_of, GoesOn}
use Rattle.piece_rope.proofs.ahead.past_all.Given as goal

abbrev pub invariant-pieces : goal.invariant-pieces
invariant-pieces l = record {
  on : GoesOn l.fn.ahead (texts_of (take l.place l.pieces)) l.left;
  within : l.place ≤ length l.pieces;
}

abbrev pub decreases-pieces : goal.decreases-pieces
decreases-pieces l = length l.pieces - l.place
