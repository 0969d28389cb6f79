use Rattle.std.proofs.Common.{◌∙◌, sym}
use Rattle.lane_utf.proofs.TextSums.{scalars_of_text, total-of, utf16_led}
use Rattle.lane_utf.proofs.counts.count_utf16_of.Goals as goal

-- as many units as code points, in the bytes and so in the text
pub returns-then-lacks_fours : goal.returns-then-lacks_fours
returns-then-lacks_fours c =
    let bytes = c.as_bytes.result.now in
    let text = c.args.text.now in
    c.requires
    ∙ sym (scalars_of_text bytes text c.utf8.text c.as_bytes.ensures.value)
    ∙ sym (c.lacks_fours.ensures c.if-lacks_fours.true)
    ∙ total-of utf16_led bytes text c.utf8.text c.as_bytes.ensures.value
