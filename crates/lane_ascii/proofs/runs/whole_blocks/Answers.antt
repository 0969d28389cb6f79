use Rattle.std.proofs.Common.{take, drop, not, refl, sym, ◌∙◌, arith}
use Rattle.std.proofs.lemmas.{List.Sums.prefix_len-le-length, Simd.leading_from_mask_l, Simd.length-chunk}
use Rattle.lane_ascii.proofs.Prefixes.{goes_on, not_not}
use Rattle.lane_ascii.proofs.runs.whole_blocks.Goals as goal

pub overflow_sub-bytes : goal.overflow_sub-bytes
overflow_sub-bytes g c = omega (arith, prefix_len-le-length g.C.Class.holds c.args.bytes.now)

pub whole-preserved : goal.whole-preserved
whole-preserved g c =
    let within = prefix_len-le-length g.C.Class.holds c.args.bytes.now in
    let long = length-chunk c.whole.at 64 c.args.bytes.now (omega arith) in
    let block = take 64 (drop c.whole.at c.args.bytes.now) in
    let all = sym (not_not g.C.Class.holds block)
    ∙ leading_from_mask_l (λ b. not (g.C.Class.holds b)) block (sym c.others_of_64.ensures ∙ c.if-others_of_64-ne0.false) in
    goes_on g.C.Class.holds c.args.bytes.now c.whole.at 64 _ c.whole.invariant refl (omega (arith, all, long))
