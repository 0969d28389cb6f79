use Rattle.std.proofs.Common.{length, ◌-◌, ◌≤◌, drop, chars, IsUtf8}
use Rattle.lane_utf.specs.{Utf16.utf16_forms, Writing.IsWriting}
use Rattle.lane_utf.proofs.to_utf16.write.Given as goal

abbrev pub invariant-text : goal.invariant-text
invariant-text l = record {
  within : l.read ≤ length l.bytes;
  text : IsUtf8 (drop l.read l.bytes);
  writing : IsWriting (utf16_forms (chars l.bytes)) l.written l.units l.initial.units (utf16_forms (chars (drop l.read l.bytes)));
}

abbrev pub decreases-text : goal.decreases-text
decreases-text l = length l.bytes - l.read
