use Rattle.piece_rope.proofs.Prelude.{ap, ◌∙◌, List, slice_get, Place, decoded_errors}
use Rattle.piece_rope.proofs.Erring.{errors-seen}
use Rattle.piece_rope.proofs.doc.Doc.fatal.Goals as goal

pub returns : goal.returns
unfolding decoded_errors
returns c = c.first_place.ensures ∙ ap (λ (xs : List Place). slice_get xs 0) (errors-seen c.self.view_is c.self.invariant.kept c.bom_len.ensures)
