use Rattle.std.proofs.Common.{arith}
use Rattle.lane_utf.proofs.FrontCounts.{block_counted, count_bound}
use Rattle.lane_utf.proofs.within.within_from.Goals as goal

pub overflow_add-count : goal.overflow_add-count
overflow_add-count g c =
    omega (arith, count_bound (block_counted c.steps.invariant 16 (omega arith) c.of_16-step.ensures c.if-step-left.false c.of_16-count.ensures))

pub steps-preserved : goal.steps-preserved
steps-preserved g c = block_counted c.steps.invariant 16 (omega arith) c.of_16-step.ensures c.if-step-left.false c.of_16-count.ensures

pub overflow_add-result : goal.overflow_add-result
overflow_add-result g c = omega (arith, count_bound c.steps.invariant, c.within_of_bytes.ensures)
