use Rattle.std.{proofs.Common.◌≡◌, proofs.Common.◌+◌, proofs.Common.◌≤◌, proofs.Common.length, specs.Str.chars, specs.Str.IsUtf8}
use Rattle.decoder_core.specs.EncoderSteps.{encoded_from, behind}
use Rattle.decoder_core.proofs.driver.put_text.Given as goal

abbrev pub invariant-code_points : goal.invariant-code_points
invariant-code_points g l =
    IsUtf8 l.rest
    × (l.index + length l.rest ≤ length l.fn.text)
    × (behind l.out.bytes (encoded_from (g.E.Encoder.table l.encoder) l.fn.html l.index l.state (chars l.rest))
    ≡ behind l.fn.out.bytes (encoded_from (g.E.Encoder.table l.encoder) l.fn.html 0 l.fn.start (chars l.fn.text)))

abbrev pub decreases-code_points : goal.decreases-code_points
decreases-code_points g l = length l.rest
