use Rattle.piece_rope.proofs.{Prelude.insert, Joining.can-fit}
use Rattle.piece_rope.proofs.pieces.put_piece.Goals as goal

pub insert-requires-clause-fit : goal.insert-requires-clause-fit
insert-requires-clause-fit c =
    let items = insert c.args.pieces.now.items c.args.place c.args.piece in
    c.law_sums_of_lists.ensures.runs items (can-fit items c.requires.join)
