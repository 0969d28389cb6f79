use Rattle.piece_rope.proofs.Prelude.{◌-◌, length, rest_of, edited_parts}
use Rattle.piece_rope.proofs.Matching.{Found}
use Rattle.piece_rope.proofs.rest.behind.Given as goal

abbrev pub invariant-parts : goal.invariant-parts
invariant-parts l =
    let parts = edited_parts l.fn.edited.pieces.now.items l.fn.edited.edit.now in
    Found l.fn.part l.left (rest_of parts l.fn.rest.head.now l.fn.rest.next) (rest_of parts l.head l.next)

abbrev pub decreases-parts : goal.decreases-parts
decreases-parts l = length (edited_parts l.fn.edited.pieces.now.items l.fn.edited.edit.now) - l.next
