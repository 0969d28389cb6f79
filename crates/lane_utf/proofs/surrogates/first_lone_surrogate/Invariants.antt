use Rattle.std.proofs.Common.{◌-◌, length}
use Rattle.lane_utf.proofs.UnitMasks.{IsScanned}
use Rattle.lane_utf.proofs.surrogates.first_lone_surrogate.Given as goal

abbrev pub invariant-whole : goal.invariant-whole
invariant-whole l = IsScanned l.units l.at

abbrev pub decreases-whole : goal.decreases-whole
decreases-whole l = length l.units - l.at

abbrev pub invariant-steps : goal.invariant-steps
invariant-steps l = IsScanned l.units l.at

abbrev pub decreases-steps : goal.decreases-steps
decreases-steps l = length l.units - l.at
