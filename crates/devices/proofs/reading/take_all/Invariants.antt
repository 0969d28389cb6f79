use Rattle.std.proofs.Common.{length, ◌+◌, ◌-◌, ◌≤◌, take}
use Rattle.devices.specs.Reading.{Taken}
use Rattle.devices.proofs.reading.take_all.Given as goal

abbrev pub invariant-loop-done : goal.invariant-loop-done
invariant-loop-done g l = record {
  within : l.done ≤ length l.bytes;
  taken : Taken g.T.Taker.takes (take l.done l.bytes) (l.initial.taker, l.initial.on, l.initial.writer) (l.taker, l.on, l.writer);
  ready : g.T.Taker.ready (l.taker, l.on, l.writer);
  room : g.T.Taker.room (l.initial.taker, l.initial.on, l.initial.writer) ≤ g.T.Taker.room (l.taker, l.on, l.writer) + l.done;
}

abbrev pub decreases-loop-done : goal.decreases-loop-done
decreases-loop-done g l = length l.bytes - l.done
