use Rattle.piece_rope.proofs.Prelude.{◌≡◌, ◌∙◌, subst, sym, take, true, has_files, decode, mark_length, bytes_of, Document, decoded}
use Rattle.piece_rope.proofs.doc.Doc.law_in_force.Goals as goal

pub returns-clause-files : goal.returns-clause-files
unfolding decode has_files
returns-clause-files c =
    let files = c.self.inside.indexes.now in
    let bytes = bytes_of c.self.inside.pieces.items in
    subst (λ (doc : Document). has_files doc.indexes (decoded doc).encoding ≡ true) c.self.view_is
    (c.law_output_at_the_end.ensures.in_force files c.self.inside.setting bytes c.self.invariant.kept.can)

pub returns-clause-within : goal.returns-clause-within
unfolding decode
returns-clause-within c = c.law_output_at_the_end.ensures.mark_fits c.args.self.now.setting c.args.self.now.bytes

pub returns-clause-output : goal.returns-clause-output
unfolding decode
returns-clause-output c =
    let doc = c.args.self.now in
    let laws = c.law_output_at_the_end.ensures in
    sym (laws.state doc.indexes doc.setting (take (mark_length doc.setting doc.bytes) doc.bytes)) ∙ laws.mark doc.indexes doc.setting doc.bytes
