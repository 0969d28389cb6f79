use Rattle.piece_rope.proofs.Prelude.{ap, Document, settled}
use Rattle.piece_rope.proofs.doc.Doc.copy.Goals as goal

pub invariant_of-result : goal.invariant_of-result
invariant_of-result c = record { kept = rw (c.in_ok-pieces.ensures, c.in_ok-tail.ensures.cases) c.self.invariant.kept; back = tt }

pub returns : goal.returns
returns c = rw c.in_ok-pieces.ensures (ap (λ (d : Document). settled d) c.self.view_is)
