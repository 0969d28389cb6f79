use Rattle.std.{proofs.Common.arith, proofs.Common.ap, proofs.Common.sym, proofs.Common.◌∙◌, specs.FinMap.len, specs.FinMap.len-entries}
use Rattle.desk.specs.Desk.{Office}
use Rattle.records.proofs.Putting.{all_documents, failed_behind, more_documents}
use Rattle.records.proofs.documents.compact.Goals as goal

pub returns-in-Err-clause-writes : goal.returns-in-Err-clause-writes
returns-in-Err-clause-writes g c =
    failed_behind (Unit {0}) (Unit {0}) c.in-Err.fault (λ text. Unit {0})
    (λ text. Unit {0}) _ _ _ _ c.documents.invariant.documents.written c.in-Err.ensures.writes

pub documents-preserved : goal.documents-preserved
documents-preserved g c =
    let desk = c.desk-desk.ensures in record {
      documents = more_documents c.args.gateway.now.office _ c.documents.number c.in-Some.held _ _ _ c.documents.invariant.documents
          (sym (rw desk at c.in-Some.ensures.held))
          (rw desk at c.in-Some.ensures.adoptable) c.in-Some.ensures.name c.in-Ok.ensures.writes;
      fine = omega (arith, c.in-Ok.ensures.failures, c.documents.invariant.fine);
    }

pub returns-clause-writes : goal.returns-clause-writes
returns-clause-writes g c =
    let count = c.len-number-end.ensures.count ∙ ap (λ (o : Office). len o.documents) c.desk-desk.ensures ∙ len-entries c.args.gateway.now.office.documents in
    (all_documents c.args.gateway.now.office _ c.documents.number _ _ c.documents.invariant.documents (omega (arith, count, c.documents-test.false))).0

pub returns-clause-compactable : goal.returns-clause-compactable
returns-clause-compactable g c =
    let count = c.len-number-end.ensures.count ∙ ap (λ (o : Office). len o.documents) c.desk-desk.ensures
    ∙ len-entries c.args.gateway.now.office.documents in record {
      each = (all_documents c.args.gateway.now.office _ c.documents.number _ _ c.documents.invariant.documents
          (omega (arith, count, c.documents-test.false))).1;
      few = omega (arith, count, c.len-number-end.ensures.few);
    }
