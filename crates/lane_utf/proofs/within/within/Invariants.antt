use Rattle.std.proofs.Common.{length, ◌-◌}
use Rattle.lane_utf.proofs.FrontCounts.{IsCounted}
use Rattle.lane_utf.proofs.within.within.Given as goal

abbrev pub invariant-whole : goal.invariant-whole
invariant-whole g l = IsCounted g.M.Measure.weight l.bytes 0 l.fn.n l.at l.left l.count

abbrev pub decreases-whole : goal.decreases-whole
decreases-whole g l = length l.bytes - l.at
