use Rattle.piece_rope.proofs.Prelude.{◌∙◌, refl, subst, map, decoder_in, Document, here_of, HaveOutputs}
use Rattle.piece_rope.proofs.Outputs.{StateLaws, held-outputs}
use Rattle.piece_rope.proofs.doc.Doc.finder.Goals as goal

pub returns-clause-outputs : goal.returns-clause-outputs
returns-clause-outputs c =
    let i = c.self.inside in
    let kept = c.self.invariant.kept in
    let law = c.law_output_at_the_end.ensures in
    let laws : StateLaws = record { start = law.start; behind = law.behind; state = law.state; parts = law.parts; byte = law.byte; end = law.end } in
    let there = law.there i.indexes.now i.setting ∙ kept.can in
    let own = held-outputs i.indexes.now i.setting i.pieces.items i.tail laws kept (decoder_in i.indexes.now i.setting) refl there in
    rw c.finder.ensures (subst (λ (doc : Document). HaveOutputs doc 0 (map here_of i.pieces.items)) c.self.view_is own.0)
