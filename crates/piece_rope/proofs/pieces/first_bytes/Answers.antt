use Rattle.piece_rope.proofs.Prelude.{ap, ◌∙◌, mark_of}
use Rattle.piece_rope.proofs.Keeping.{mark-first}
use Rattle.piece_rope.proofs.pieces.first_bytes.Goals as goal

pub returns : goal.returns
returns c = ap mark_of c.bytes.ensures ∙ mark-first c.args.pieces.now.items c.get.result.now c.requires c.get.ensures
