use Rattle.std.proofs.Common.{◌∙◌, ◌*◌, ◌<◌, ap, sym, arith, length, rules, ℕ}
use Rattle.state_memo.specs.TextFacts.{utf16-few}
use Rattle.state_memo.proofs.Prelude.{Stride, chars, run_width}
use Rattle.state_memo.proofs.{CodePoints.bytes-run, CodePoints.pairs-run, CodePoints.utf16-run, CodePoints.utf8-run, Numbers.width-chars}
use Rattle.state_memo.proofs.plain.width_of_text.Goals as goal

pub overflow_mul-result : goal.overflow_mul-result
overflow_mul-result c =
    let len : length c.args.text.now < 9223372036854775808 = search rules in
    omega (arith, c.count_utf16.ensures, utf16-few (chars c.args.text.now), width-chars c.args.text.now c.utf8.text, len)

pub returns-in-Utf8 : goal.returns-in-Utf8
returns-in-Utf8 c =
    let cs = chars c.args.text.now in
    width-chars c.args.text.now c.utf8.text ∙ sym (utf8-run cs) ∙ ap (λ (t : Stride). run_width t cs) (sym c.in-Utf8.is)

pub returns-in-Utf16 : goal.returns-in-Utf16
returns-in-Utf16 c =
    let cs = chars c.args.text.now in
    ap (λ (n : ℕ). 2 * n) c.count_utf16.ensures ∙ sym (utf16-run cs) ∙ ap (λ (t : Stride). run_width t cs) (sym c.in-Utf16.is)

pub returns-in-Pairs : goal.returns-in-Pairs
returns-in-Pairs c =
    let cs = chars c.args.text.now in
    c.count_pair_bytes.ensures ∙ sym (pairs-run cs) ∙ ap (λ (t : Stride). run_width t cs) (sym c.in-Pairs.is)

pub returns-in-Bytes : goal.returns-in-Bytes
returns-in-Bytes c =
    let cs = chars c.args.text.now in
    c.count_scalars.ensures ∙ bytes-run cs ∙ ap (λ (t : Stride). run_width t cs) (sym c.in-Bytes.is)
