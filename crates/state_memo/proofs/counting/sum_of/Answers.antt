use Rattle.std.{proofs.Common.arith, proofs.Common.false, proofs.Common.refl, specs.Str.chars}
use Rattle.state_memo.specs.TextFacts.{marks-few, scalars-few, utf16-few}
use Rattle.state_memo.proofs.Numbers.{facts, width-chars, is_sum_of}
use Rattle.state_memo.proofs.counting.sum_of.Goals as goal

-- the counts of a text are no more than its bytes
pub overflow_cast-result-2 : goal.overflow_cast-result-2
overflow_cast-result-2 c =
    let cs = chars c.args.text.now in
    omega (arith, c.requires.scalars, scalars-few cs, width-chars c.args.text.now c.utf8.text, c.if-text-most.false)

pub overflow_cast-result-3 : goal.overflow_cast-result-3
overflow_cast-result-3 c =
    let cs = chars c.args.text.now in
    omega (arith, c.count_utf16_of.ensures, utf16-few cs, width-chars c.args.text.now c.utf8.text, c.if-text-most.false)

pub overflow_cast-result-6 : goal.overflow_cast-result-6
overflow_cast-result-6 c =
    let cs = chars c.args.text.now in
    omega (arith, c.count_marks.ensures, marks-few false cs, scalars-few cs, width-chars c.args.text.now c.utf8.text, c.if-text-most.false)

pub invariant_of-result : goal.invariant_of-result
invariant_of-result c =
    let f = facts (chars c.args.text.now) _ _ _ _ _ _ c.requires.scalars c.count_utf16_of.ensures (width-chars c.args.text.now c.utf8.text)
    c.count_marks.ensures c.begins_lf.ensures c.ends_cr.ensures in
    record { lf_counts = f.lf_counts; cr_counts = f.cr_counts; few_marks = f.few_marks; few_scalars = f.few_scalars; few_utf16 = f.few_utf16 }

pub returns : goal.returns
returns c =
    is_sum_of _ c.args.bytes (chars c.args.text.now) c.args.items.now refl c.requires.scalars c.count_utf16_of.ensures
    (width-chars c.args.text.now c.utf8.text) c.count_errors-errors.ensures c.count_marks.ensures c.begins_lf.ensures c.ends_cr.ensures
