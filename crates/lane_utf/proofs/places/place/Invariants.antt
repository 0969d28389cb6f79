use Rattle.std.proofs.Common.{length, drop, ◌-◌, ◌≡◌, ◌≤◌}
use Rattle.lane_utf.specs.{Selected.moved, Weights.place_in}
use Rattle.lane_utf.proofs.places.place.Given as goal

abbrev pub invariant-whole : goal.invariant-whole
invariant-whole g l = record {
  within : l.at ≤ length l.bytes;
  same : moved l.at (place_in g.M.Measure.weight (drop l.at l.bytes) l.left) ≡ place_in g.M.Measure.weight l.bytes l.fn.n;
}

abbrev pub decreases-whole : goal.decreases-whole
decreases-whole g l = length l.bytes - l.at
