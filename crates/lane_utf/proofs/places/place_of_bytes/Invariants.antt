use Rattle.std.proofs.Common.{length, drop, ◌-◌, ◌≡◌, ◌≤◌}
use Rattle.lane_utf.specs.{Selected.moved, Weights.place_in}
use Rattle.lane_utf.proofs.places.place_of_bytes.Given as goal

abbrev pub invariant-bytes : goal.invariant-bytes
invariant-bytes g l = record {
  within : l.at ≤ length l.bytes;
  same : moved l.at (place_in g.M.Measure.weight (drop l.at l.bytes) l.left) ≡ moved l.fn.from (place_in g.M.Measure.weight (drop l.fn.from l.bytes) l.fn.n);
}

abbrev pub decreases-bytes : goal.decreases-bytes
decreases-bytes g l = length l.bytes - l.at
