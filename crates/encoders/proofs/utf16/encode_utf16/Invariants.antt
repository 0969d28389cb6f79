use Rattle.std.proofs.Common.{◌≡◌, ◌++◌, length, chars}
use denote.{Text.Utf8, Shadow.shadow}
use Rattle.lane_utf.specs.Utf16.{utf16_forms}
use Rattle.encoders.specs.Utf16.{units_bytes}
use Rattle.encoders.proofs.utf16.encode_utf16.Given as goal

abbrev pub invariant-parts : goal.invariant-parts
invariant-parts l = shadow (Utf8 l.rest)
    × (units_bytes l.order (utf16_forms (chars l.fn.text)) ≡ l.bytes.items ++ units_bytes l.order (utf16_forms (chars l.rest)))

abbrev pub decreases-parts : goal.decreases-parts
decreases-parts l = length l.rest
