use Rattle.piece_rope.proofs.Keeping.{join-kept}
use Rattle.piece_rope.proofs.doc.Doc.roll_back.Goals as goal

pub take_back-requires-clause-old : goal.take_back-requires-clause-old
take_back-requires-clause-old c = join-kept c.self.invariant.kept
