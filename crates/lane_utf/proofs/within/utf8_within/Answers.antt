use Rattle.std.proofs.Common.{◌∙◌, arith}
use Rattle.lane_utf.proofs.FrontCounts.{all_in_front, cut_in_front}
use Rattle.lane_utf.proofs.within.utf8_within.Goals as goal

pub returns-then-bytes-all : goal.returns-then-bytes-all
returns-then-bytes-all c =
    c.total_scalars.ensures
    ∙ all_in_front c.as_bytes-all.result.now c.args.text.now c.args.bytes c.utf8.text c.as_bytes-all.ensures.value c.if-bytes-all.true

pub overflow_sub-result : goal.overflow_sub-result
overflow_sub-result c =
    let cut = cut_in_front c.as_bytes-all.result.now c.args.text.now c.args.bytes c.utf8.text c.as_bytes-all.ensures.value c.if-bytes-all.false in
    omega (arith, c.total_scalars-2.ensures, cut)

pub returns : goal.returns
returns c =
    let cut = cut_in_front c.as_bytes-all.result.now c.args.text.now c.args.bytes c.utf8.text c.as_bytes-all.ensures.value c.if-bytes-all.false in
    omega (arith, c.total_scalars-2.ensures, cut)
