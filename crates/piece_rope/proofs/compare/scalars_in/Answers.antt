use Rattle.piece_rope.proofs.Prelude.{ap, ◌∙◌, take, Sum}
use Rattle.piece_rope.proofs.Texts.{sums-scalars}
use Rattle.piece_rope.proofs.compare.scalars_in.Goals as goal

pub returns : goal.returns
returns c = ap (λ (s : Sum). s.scalars) c.prefix.ensures.sum ∙ sums-scalars (take c.args.place c.args.edited.pieces.now.items)
