use Rattle.std.proofs.Common.{arith, ◌∙◌}
use Rattle.records.proofs.Putting.{failed_behind, more_parts}
use Rattle.records.proofs.documents.put_parts.Goals as goal

pub returns-in-Err-put_part-clause-writes : goal.returns-in-Err-put_part-clause-writes
returns-in-Err-put_part-clause-writes g c =
    failed_behind (Unit {0}) (Unit {0}) c.in-Err-put_part.fault (λ text. Unit {0})
    (λ text. Unit {0}) _ _ _ _ c.parts.invariant.parts.written c.in-Err-put_part.ensures.writes

pub parts-preserved : goal.parts-preserved
parts-preserved g c = record {
  parts = more_parts c.args.held.now.1.bytes c.deref.result.now c.parts.at _ _ _ c.parts.invariant.parts
      (omega (arith, c.parts-test.true, c.from-len.ensures, c.len.ensures))
      (c.deref.ensures.value ∙ c.in-Ok.ensures) c.put_part.ensures.bytes c.in-Ok-put_part.ensures.writes;
  fine = omega (arith, c.in-Ok-put_part.ensures.failures, c.parts.invariant.fine);
}
