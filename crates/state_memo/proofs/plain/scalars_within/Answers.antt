use Rattle.std.proofs.Common.{◌∙◌, ap, min, sym}
use Rattle.lane_utf.specs.Within.{within}
use Rattle.state_memo.proofs.Prelude.{Stride, chars, width_of}
use Rattle.state_memo.proofs.PlainTexts.{within-bytes, within-twice}
use Rattle.state_memo.proofs.plain.scalars_within.Goals as goal

pub returns-in-Utf16 : goal.returns-in-Utf16
returns-in-Utf16 c =
    let cs = chars c.args.text.now in
    c.utf16_within.ensures ∙ within-twice cs c.args.width ∙ ap (λ (t : Stride). within (width_of t) cs c.args.width) (sym c.in-Utf16.is)

pub returns-in-Bytes : goal.returns-in-Bytes
returns-in-Bytes c =
    let cs = chars c.args.text.now in
    c.min.ensures ∙ ap (λ n. min n c.args.width) c.count_scalars.ensures ∙ within-bytes cs c.args.width
    ∙ ap (λ (t : Stride). within (width_of t) cs c.args.width) (sym c.in-Bytes.is)
