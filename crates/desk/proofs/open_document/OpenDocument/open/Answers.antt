use Rattle.desk.proofs.Open.{unopened}
use Rattle.desk.proofs.open_document.OpenDocument.open.Goals as goal

pub returns-in-Err-clause-entry : goal.returns-in-Err-clause-entry
returns-in-Err-clause-entry c = rw c.from.ensures (unopened _ _ _ c.in-Err.ensures.faults)
