use Rattle.std.proofs.Common.{arith}
use Rattle.lane_utf.proofs.UnitSums.{block_summed, sum_bound}
use Rattle.lane_utf.proofs.counts.total_from.Goals as goal

pub overflow_add-sum : goal.overflow_add-sum
overflow_add-sum g c = omega (arith, sum_bound (block_summed c.steps.invariant 16 (omega arith) c.of_16-sum.ensures) 2 g.met.M.Measure.small)

pub steps-preserved : goal.steps-preserved
steps-preserved g c = block_summed c.steps.invariant 16 (omega arith) c.of_16-sum.ensures

pub overflow_add-result : goal.overflow_add-result
overflow_add-result g c = omega (arith, sum_bound c.steps.invariant 2 g.met.M.Measure.small, c.total_left.ensures)
