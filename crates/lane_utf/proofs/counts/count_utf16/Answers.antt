use Rattle.std.proofs.Common.{◌∙◌}
use Rattle.lane_utf.proofs.TextSums.{total-of, utf16_led}
use Rattle.lane_utf.proofs.counts.count_utf16.Goals as goal

pub returns : goal.returns
returns c = c.total.ensures ∙ total-of utf16_led c.as_bytes.result.now c.args.text.now c.utf8.text c.as_bytes.ensures.value
