use Rattle.std.proofs.Common.{length, ◌-◌}
use Rattle.lane_utf.{specs.Weights.unit_weight, proofs.UnitSums.IsSum}
use Rattle.lane_utf.proofs.utf8_length.utf8_length.Given as goal

abbrev pub invariant-whole : goal.invariant-whole
invariant-whole l = IsSum unit_weight l.units 0 l.at l.total

abbrev pub decreases-whole : goal.decreases-whole
decreases-whole l = length l.units - l.at
