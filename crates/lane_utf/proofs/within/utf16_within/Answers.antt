use Rattle.std.proofs.Common.{◌∙◌}
use Rattle.lane_utf.proofs.{FrontCounts.front-of, TextSums.utf16_led}
use Rattle.lane_utf.proofs.within.utf16_within.Goals as goal

pub returns : goal.returns
returns c = c.within.ensures ∙ front-of utf16_led c.as_bytes.result.now c.args.text.now c.args.units c.utf8.text c.as_bytes.ensures.value
