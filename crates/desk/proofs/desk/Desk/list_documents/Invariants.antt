use Rattle.std.proofs.Common.{◌≡◌, take}
use Rattle.std.specs.FinMap.{entries}
use Rattle.desk.proofs.desk.Desk.list_documents.Given as goal

-- the first of the documents so far
abbrev pub invariant-documents : goal.invariant-documents
invariant-documents l = l.documents.items ≡ take l.number (entries l.self.documents)
