use Rattle.std.proofs.Common.{length, ◌-◌, ◌≡◌, ◌≤◌}
use Rattle.lane_ascii.specs.Pairs.{swapped, swapped_from}
use Rattle.lane_ascii.proofs.swap.swap_pairs.Given as goal

abbrev pub invariant-steps : goal.invariant-steps
invariant-steps l = (l.at ≤ length l.bytes) × (swapped_from l.at l.bytes ≡ swapped l.fn.bytes)

abbrev pub decreases-steps : goal.decreases-steps
decreases-steps l = length l.bytes - l.at
