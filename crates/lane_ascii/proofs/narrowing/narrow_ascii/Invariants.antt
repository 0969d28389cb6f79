use Rattle.std.proofs.Common.{◌≡◌, length, drop, ◌-◌}
use Rattle.lane_ascii.proofs.Narrows.{IsNarrowed}
use Rattle.lane_ascii.proofs.narrowing.narrow_ascii.Given as goal

abbrev pub invariant-steps : goal.invariant-steps
invariant-steps l = IsNarrowed l.pairs l.text l.at × (length l.text ≡ length l.fn.text) × (drop l.at l.text ≡ drop l.at l.fn.text)

abbrev pub decreases-steps : goal.decreases-steps
decreases-steps l = length l.text - l.at
