use Rattle.std.proofs.Common.{length, drop, ◌-◌, ◌≡◌, ◌≤◌}
use Rattle.lane_utf.specs.{Selected.moved, Weights.place_in}
use Rattle.lane_utf.proofs.places.place_from.Given as goal

abbrev pub invariant-steps : goal.invariant-steps
invariant-steps g l = record {
  within : l.at ≤ length l.bytes;
  same : moved l.at (place_in g.M.Measure.weight (drop l.at l.bytes) l.left) ≡ moved l.fn.from (place_in g.M.Measure.weight (drop l.fn.from l.bytes) l.fn.n);
}

abbrev pub decreases-steps : goal.decreases-steps
decreases-steps g l = length l.bytes - l.at
