use Rattle.std.{proofs.Common.◌≡◌, specs.FinMap.entries}
use Rattle.records.proofs.Putting.{DocumentsSoFar}
use Rattle.records.proofs.documents.compact.Given as goal

abbrev pub invariant-documents : goal.invariant-documents
invariant-documents g l = record {
  documents : DocumentsSoFar l.gateway.office (entries l.gateway.office.documents) l.number (g.W.Outlet.took l.initial.out).written
      (g.W.Outlet.took l.out).written;
  fine : (g.W.Outlet.took l.out).failures ≡ (g.W.Outlet.took l.initial.out).failures;
}
