use Rattle.std.proofs.Common.{length, ◌-◌}
use Rattle.lane_utf.proofs.FrontCounts.{IsCounted}
use Rattle.lane_utf.proofs.within.within_of_bytes.Given as goal

abbrev pub invariant-bytes : goal.invariant-bytes
invariant-bytes g l = IsCounted g.M.Measure.weight l.bytes l.fn.from l.fn.n l.at l.left l.count

abbrev pub decreases-bytes : goal.decreases-bytes
decreases-bytes g l = length l.bytes - l.at
