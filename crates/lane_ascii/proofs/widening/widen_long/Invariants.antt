use Rattle.std.proofs.Common.{length, ◌-◌, ◌≡◌, ◌≤◌}
use Rattle.lane_ascii.proofs.Widens.{written}
use Rattle.lane_ascii.proofs.widening.widen_long.Given as goal

abbrev pub invariant-steps : goal.invariant-steps
invariant-steps l = (l.at ≤ length l.bytes) × (length l.units ≡ length l.fn.units) × (l.units ≡ written l.bytes l.fn.units l.at)

abbrev pub decreases-steps : goal.decreases-steps
decreases-steps l = length l.bytes - l.at
