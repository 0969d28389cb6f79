use Rattle.desk.proofs.Apart as apart
use Rattle.desk.proofs.laws.law_documents_are_apart.Goals as goal

pub returns : goal.returns
returns c = apart.law_documents_are_apart
