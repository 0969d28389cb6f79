use Rattle.piece_rope.proofs.Prelude.{◌-◌, ◌+◌, ◌≡◌, length, take, texts_of, made_pieces}
use Rattle.piece_rope.proofs.compare.made_counted.Given as goal

abbrev pub invariant-pieces : goal.invariant-pieces
invariant-pieces l = l.left + length (texts_of (take l.place (made_pieces l.fn.edited.pieces.now.items l.fn.edited.edit.now))) ≡ l.fn.most

abbrev pub decreases-pieces : goal.decreases-pieces
decreases-pieces l = l.end - l.place
