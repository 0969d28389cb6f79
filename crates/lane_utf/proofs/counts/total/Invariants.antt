use Rattle.std.proofs.Common.{length, ◌-◌}
use Rattle.lane_utf.proofs.UnitSums.{IsSum}
use Rattle.lane_utf.proofs.counts.total.Given as goal

abbrev pub invariant-whole : goal.invariant-whole
invariant-whole g l = IsSum g.M.Measure.weight l.bytes l.fn.from l.at l.sum

abbrev pub decreases-whole : goal.decreases-whole
decreases-whole g l = length l.bytes - l.at
