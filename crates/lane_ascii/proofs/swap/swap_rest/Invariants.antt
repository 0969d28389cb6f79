use Rattle.std.proofs.Common.{length, ◌-◌, ◌≡◌, ◌≤◌}
use Rattle.lane_ascii.specs.Pairs.{swapped_from}
use Rattle.lane_ascii.proofs.swap.swap_rest.Given as goal

abbrev pub invariant-eights : goal.invariant-eights
invariant-eights l = (l.at ≤ length l.bytes) × (swapped_from l.at l.bytes ≡ swapped_from l.from l.fn.bytes)

abbrev pub decreases-eights : goal.decreases-eights
decreases-eights l = length l.bytes - l.at

abbrev pub invariant-pairs : goal.invariant-pairs
invariant-pairs l = (l.at ≤ length l.bytes) × (swapped_from l.at l.bytes ≡ swapped_from l.from l.fn.bytes)

abbrev pub decreases-pairs : goal.decreases-pairs
decreases-pairs l = length l.bytes - l.at
