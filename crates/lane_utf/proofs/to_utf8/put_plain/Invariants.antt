use Rattle.std.proofs.Common.{◌-◌}
use Rattle.lane_utf.proofs.Progress.{AreWritten}
use Rattle.lane_utf.proofs.to_utf8.put_plain.Given as goal

abbrev pub invariant-lanes : goal.invariant-lanes
invariant-lanes l = AreWritten l.units l.fn.bytes l.bytes l.fn.from l.reached l.lane

abbrev pub decreases-lanes : goal.decreases-lanes
decreases-lanes l = 8 - l.lane
