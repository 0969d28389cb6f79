use Rattle.std.proofs.Common.{length, ◌-◌}
use Rattle.lane_utf.proofs.UnitSums.{IsSum}
use Rattle.lane_utf.proofs.counts.total_from.Given as goal

abbrev pub invariant-steps : goal.invariant-steps
invariant-steps g l = IsSum g.M.Measure.weight l.bytes l.fn.from l.at l.sum

abbrev pub decreases-steps : goal.decreases-steps
decreases-steps g l = length l.bytes - l.at
