use Rattle.std.proofs.Common.{arith}
use Rattle.devices.{specs.declared.reading.Progress.Progress, proofs.Taking.pumps-more, proofs.Taking.pumps-until}
use Rattle.devices.proofs.reading.pump.Goals as goal

pub returns-in-Ok-End-clause-takes : goal.returns-in-Ok-End-clause-takes
returns-in-Ok-End-clause-takes g c = pumps-more g.T.Taker.takes g.T.Taker.stops _ _ _ _ _ _ c.loop.invariant.so c.in-Ok-End.ensures.takes

pub returns-in-Err-clause-takes : goal.returns-in-Err-clause-takes
returns-in-Err-clause-takes g c = pumps-until g.T.Taker.takes g.T.Taker.stops _ _ _ _ _ _ c.loop.invariant.so Progress
    (Unit {0}) c.in-Err.stop c.in-Err.ensures.takes

pub loop-preserved : goal.loop-preserved
loop-preserved g c =
    let more = rw c.in-Ok-More.field-0-is at c.in-Ok-More.ensures in
    record {
      so = pumps-more g.T.Taker.takes g.T.Taker.stops _ _ _ _ _ _ c.loop.invariant.so c.in-Ok-More.ensures.takes;
      ready = more.ready;
      room = omega (arith, more.room, c.loop.invariant.room, c.loop.auto);
      ends = omega (arith, more.reads.ends, c.loop.invariant.ends);
      reads = omega (arith, more.once, c.loop.invariant.reads);
      failures = omega (arith, more.reads.failures, c.loop.invariant.failures);
    }
