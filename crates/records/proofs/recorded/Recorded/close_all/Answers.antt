use Rattle.std.proofs.Common.{refl, ap, arith, rules, ◌∙◌}
use Rattle.connections.specs.Events.{connections}
use Rattle.devices.specs.Devices.{Writes}
use Rattle.records.proofs.Closing.{closed_below, closed_beside, closings_written, none_open, none_written}
use Rattle.records.proofs.recorded.Recorded.close_all.Goals as goal

pub loop-c-init : goal.loop-c-init
loop-c-init g c = record {
  shut = λ d small. absurd (omega (arith, small));
  ahead = λ d above. refl;
  office = refl;
  written = none_written _ _;
  lost = λ some. (some, refl);
}

pub loop-c-preserved : goal.loop-c-preserved
loop-c-preserved g c =
    let beside = closed_beside c.close.result _ _ c.loop-c.c c.close.ensures.fault c.close.ensures.refused c.close.ensures.step in
    record {
      shut = closed_below c.close.result _ _ c.loop-c.c (omega arith) c.loop-c.self.other c.close.ensures.fault
          c.close.ensures.refused c.close.ensures.step c.loop-c.invariant.shut;
      ahead = λ d above. beside.1 d (omega (arith, above)) ∙ c.loop-c.invariant.ahead d (omega (arith, above));
      office = beside.0 ∙ c.loop-c.invariant.office;
      written = closings_written c.close.result _ _ _ _ _ c.loop-c.c _ _ _ (omega arith) c.close.ensures.fault c.close.ensures.recorded
          c.close.ensures.left (λ some. let it = c.close.ensures.lost some in (it.0, ap (λ (w : Writes). w.written) it.1))
          (c.loop-c.invariant.ahead c.loop-c.c (omega arith)) c.loop-c.invariant.written;
      lost = λ some. let before = c.loop-c.invariant.lost some in let it = c.close.ensures.lost before.0 in (it.0, it.1 ∙ before.1);
    }

pub returns-clause-lines : goal.returns-clause-lines
returns-clause-lines g c = none_open _ connections c.loop-c.self.other (λ d small. c.loop-c.invariant.shut d (search rules))
