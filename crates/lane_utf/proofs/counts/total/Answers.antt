use Rattle.std.proofs.Common.{arith}
use Rattle.lane_utf.proofs.UnitSums.{block_summed, sum_bound}
use Rattle.lane_utf.proofs.counts.total.Goals as goal

pub overflow_add-sum : goal.overflow_add-sum
overflow_add-sum g c = omega (arith, sum_bound (block_summed c.whole.invariant 64 (omega arith) c.of_64-sum.ensures) 2 g.met.M.Measure.small)

pub whole-preserved : goal.whole-preserved
whole-preserved g c = block_summed c.whole.invariant 64 (omega arith) c.of_64-sum.ensures

pub overflow_add-result : goal.overflow_add-result
overflow_add-result g c = omega (arith, sum_bound c.whole.invariant 2 g.met.M.Measure.small, c.total_from.ensures)
