use Rattle.std.proofs.Common.{ap, length, arith, chars}
use Rattle.lane_utf.{specs.Utf16.utf16_forms, proofs.Decoding.forms-width}
use Rattle.lane_utf.proofs.to_utf16.utf8_to_utf16.Goals as goal

pub write-requires-clause-room : goal.write-requires-clause-room
write-requires-clause-room c =
    omega (arith, ap (λ k. length (utf16_forms (chars k))) c.as_bytes.ensures.value, forms-width (chars c.args.text.now))
