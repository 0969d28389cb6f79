use Rattle.std.proofs.Common.{◌∙◌}
use Rattle.lane_utf.proofs.{FrontCounts.front-of, TextSums.pair_led}
use Rattle.lane_utf.proofs.within.pairs_within.Goals as goal

pub returns : goal.returns
returns c = c.within.ensures ∙ front-of pair_led c.as_bytes.result.now c.args.text.now c.args.bytes c.utf8.text c.as_bytes.ensures.value
