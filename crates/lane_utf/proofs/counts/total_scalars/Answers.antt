use Rattle.std.proofs.Common.{arith}
use Rattle.lane_utf.{specs.Weights.scalar-small, proofs.UnitSums.block_summed, proofs.UnitSums.sum_bound}
use Rattle.lane_utf.proofs.counts.total_scalars.Goals as goal

pub overflow_add-sum : goal.overflow_add-sum
overflow_add-sum c = omega (arith, sum_bound (block_summed c.parts.invariant 128 (omega arith) c.scalars_in_128-sum.ensures) 2 scalar-small)

pub parts-preserved : goal.parts-preserved
parts-preserved c = block_summed c.parts.invariant 128 (omega arith) c.scalars_in_128-sum.ensures

pub overflow_add-result : goal.overflow_add-result
overflow_add-result c = omega (arith, sum_bound c.parts.invariant 2 scalar-small, c.total.ensures)
