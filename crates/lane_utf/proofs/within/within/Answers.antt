use Rattle.std.proofs.Common.{arith}
use Rattle.lane_utf.proofs.FrontCounts.{block_counted, count_bound}
use Rattle.lane_utf.proofs.within.within.Goals as goal

pub overflow_add-count : goal.overflow_add-count
overflow_add-count g c =
    omega (arith, count_bound (block_counted c.whole.invariant 64 (omega arith) c.of_64-block.ensures c.if-block-left.false c.of_64-count.ensures))

pub whole-preserved : goal.whole-preserved
whole-preserved g c = block_counted c.whole.invariant 64 (omega arith) c.of_64-block.ensures c.if-block-left.false c.of_64-count.ensures

pub overflow_add-result : goal.overflow_add-result
overflow_add-result g c = omega (arith, count_bound c.whole.invariant, c.within_from.ensures)
