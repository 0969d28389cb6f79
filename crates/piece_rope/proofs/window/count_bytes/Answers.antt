use Rattle.piece_rope.proofs.Prelude.{◌∙◌, ap, Sum}
use Rattle.piece_rope.proofs.Counting.{sums-bytes}
use Rattle.piece_rope.proofs.window.count_bytes.Goals as goal

pub returns : goal.returns
returns c = ap (λ (s : Sum). s.bytes) c.total.ensures ∙ sums-bytes c.args.pieces.now.items c.requires
