use Rattle.piece_rope.proofs.Preparing.{metered-as}
use Rattle.piece_rope.proofs.doc.Doc.keeps.Goals as goal

pub returns-clause-meter_most : goal.returns-clause-meter_most
returns-clause-meter_most c = metered-as c.self.view_is _ _ _ _ _ c.prepare_kept-prepared.ensures.meter_most
