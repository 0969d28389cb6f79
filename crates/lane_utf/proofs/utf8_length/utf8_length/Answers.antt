use Rattle.std.proofs.{Common.arith, lemmas.Simd.length-chunk}
use Rattle.lane_utf.proofs.UnitSums.{block_summed, sum_bound, weight-le}
use Rattle.lane_utf.proofs.utf8_length.utf8_length.Goals as goal

pub overflow_add-total : goal.overflow_add-total
overflow_add-total c = omega (arith, sum_bound (block_summed c.whole.invariant 32 (omega arith) c.weight_of-total.ensures) 3 weight-le)

pub whole-preserved : goal.whole-preserved
whole-preserved c = block_summed c.whole.invariant 32 (omega arith) c.weight_of-total.ensures

pub overflow_add-result : goal.overflow_add-result
overflow_add-result c = omega (arith, sum_bound c.whole.invariant 3 weight-le, c.length_from.ensures)

pub weight_of-total-requires : goal.weight_of-total-requires
weight_of-total-requires c = length-chunk c.whole.at 32 c.args.units.now (omega arith)
