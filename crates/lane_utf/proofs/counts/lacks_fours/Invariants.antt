use Rattle.std.proofs.Common.{length, ◌-◌, ◌≤◌}
use Rattle.lane_utf.specs.Weights.{AreBelowFour}
use Rattle.lane_utf.proofs.counts.lacks_fours.Given as goal

abbrev pub invariant-parts : goal.invariant-parts
invariant-parts l = (l.at ≤ length l.bytes) × AreBelowFour l.bytes 0 l.at

abbrev pub decreases-parts : goal.decreases-parts
decreases-parts l = length l.bytes - l.at
