use Rattle.std.proofs.Common.{length, ◌-◌}
use Rattle.lane_utf.{specs.Weights.unit_weight, proofs.UnitSums.IsSum}
use Rattle.lane_utf.proofs.utf8_length.length_from.Given as goal

abbrev pub invariant-units : goal.invariant-units
invariant-units l = IsSum unit_weight l.units l.fn.from l.at l.total

abbrev pub decreases-units : goal.decreases-units
decreases-units l = length l.units - l.at
