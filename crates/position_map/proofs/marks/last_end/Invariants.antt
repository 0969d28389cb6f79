use Rattle.position_map.proofs.Words.{◌≡◌, ◌≤◌, false, length, drop, marks}
use Rattle.position_map.proofs.marks.last_end.Given as goal

abbrev pub invariant-bytes : goal.invariant-bytes
invariant-bytes l = record {
  within : l.at ≤ length l.bytes;
  none : marks false (drop l.at l.bytes) ≡ 0;
}

abbrev pub decreases-bytes : goal.decreases-bytes
decreases-bytes l = l.at
