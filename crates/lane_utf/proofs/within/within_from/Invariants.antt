use Rattle.std.proofs.Common.{length, ◌-◌}
use Rattle.lane_utf.proofs.FrontCounts.{IsCounted}
use Rattle.lane_utf.proofs.within.within_from.Given as goal

abbrev pub invariant-steps : goal.invariant-steps
invariant-steps g l = IsCounted g.M.Measure.weight l.bytes l.fn.from l.fn.n l.at l.left l.count

abbrev pub decreases-steps : goal.decreases-steps
decreases-steps g l = length l.bytes - l.at
