use Rattle.std.proofs.Common.{◌∙◌}
use Rattle.lane_utf.proofs.TextSums.{place-of, utf16_led}
use Rattle.lane_utf.proofs.places.nth_utf16.Goals as goal

pub returns : goal.returns
returns c = c.place.ensures ∙ place-of utf16_led c.as_bytes.result.now c.args.text.now c.args.n c.utf8.text c.as_bytes.ensures.value
