use Rattle.std.proofs.Common.{length, ◌-◌}
use Rattle.lane_utf.specs.Progress.{IsUpTo}
use Rattle.lane_utf.proofs.to_utf8.write.Given as goal

abbrev pub invariant-runs : goal.invariant-runs
invariant-runs l = IsUpTo l.units l.bytes l.fn.bytes l.reached

abbrev pub decreases-runs : goal.decreases-runs
decreases-runs l = length l.units - l.reached.read

abbrev pub invariant-rest : goal.invariant-rest
invariant-rest l = IsUpTo l.units l.bytes l.fn.bytes l.reached

abbrev pub decreases-rest : goal.decreases-rest
decreases-rest l = length l.units - l.reached.read
