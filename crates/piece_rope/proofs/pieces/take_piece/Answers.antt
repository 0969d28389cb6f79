use Rattle.piece_rope.proofs.{Prelude.remove, Joining.can-fit}
use Rattle.piece_rope.proofs.pieces.take_piece.Goals as goal

pub remove-requires-clause-fit : goal.remove-requires-clause-fit
remove-requires-clause-fit c =
    let items = remove c.args.pieces.now.items c.args.place in
    c.law_sums_of_lists.ensures.runs items (can-fit items c.requires.join)
