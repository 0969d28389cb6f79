use Rattle.piece_rope.proofs.Joining.{can-fit}
use Rattle.piece_rope.proofs.pieces.built.Goals as goal

pub build-requires : goal.build-requires
build-requires c = c.law_sums_of_lists.ensures.runs c.args.pieces.now.items (can-fit c.args.pieces.now.items c.requires)
