use Rattle.std.proofs.Common.{◌≡◌, ◌≤◌, ◌-◌, true, length, drop}
use Rattle.lane_utf.specs.Scan.{lone_from}
use Rattle.lane_utf.proofs.surrogates.scan.Given as goal

abbrev pub invariant-units : goal.invariant-units
invariant-units l = record {
  within : l.at ≤ length l.units;
  before : l.after_lead ≡ true → 1 ≤ l.at;
  same : lone_from l.after_lead l.at (drop l.at l.units) ≡ lone_from l.fn.pending l.fn.from (drop l.fn.from l.units);
}

abbrev pub decreases-units : goal.decreases-units
decreases-units l = length l.units - l.at
