use Rattle.std.proofs.Common.{rules}
use Rattle.connections.specs.Events.{Bringing}
use Rattle.records.proofs.Closing.{lost_as, lost_now, lost_unwritten, not_lost}
use Rattle.records.proofs.recorded.Recorded.bring.Goals as goal

pub returns-in-Err-Unrecorded : goal.returns-in-Err-Unrecorded
returns-in-Err-Unrecorded g c = record {
  fault = tt;
  refused = lost_as _ _ _ (search rules) c.of-loss.ensures;
  step = tt;
  answered = tt;
  recorded = tt;
  left = lost_now (Bringing c.args.c c.args.bytes.now) c.args.self.now.gateway c.event.new.gateway _ _ _ _ (search rules)
      (rw c.in-Err-Unrecorded.field-0-is at c.in-Err-Unrecorded.ensures.records);
  lost = λ some. not_lost _ (search rules) some;
}

pub returns-in-Err-OutOfMemory-clause-left : goal.returns-in-Err-OutOfMemory-clause-left
returns-in-Err-OutOfMemory-clause-left g c =
    lost_unwritten (Bringing c.args.c c.args.bytes.now) c.args.self.now.gateway c.event.new.gateway _ _ _ _ (search rules)
    (rw c.in-Err-OutOfMemory.field-0-is at c.in-Err-OutOfMemory.ensures.records)
