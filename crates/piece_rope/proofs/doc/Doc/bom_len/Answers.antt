use Rattle.piece_rope.proofs.Prelude.{ap, ◌∙◌, decode, mark_length, bytes_of, Document}
use Rattle.piece_rope.proofs.Keeping.{mark-length-by}
use Rattle.piece_rope.proofs.doc.Doc.bom_len.Goals as goal

pub returns : goal.returns
unfolding decode
returns c =
    c.sniff.ensures.bom_len
    ∙ mark-length-by c.self.inside.setting c.first_bytes.result.now (bytes_of c.self.inside.pieces.items) c.first_bytes.ensures
    ∙ ap (λ (d : Document). mark_length d.setting d.bytes) c.self.view_is
