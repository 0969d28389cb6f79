use Rattle.std.proofs.Common.{length, ◌-◌}
use Rattle.lane_utf.proofs.UnitSums.{IsSum}
use Rattle.lane_utf.proofs.counts.total_of_bytes.Given as goal

abbrev pub invariant-bytes : goal.invariant-bytes
invariant-bytes g l = IsSum g.M.Measure.weight l.bytes l.fn.from l.at l.sum

abbrev pub decreases-bytes : goal.decreases-bytes
decreases-bytes g l = length l.bytes - l.at
