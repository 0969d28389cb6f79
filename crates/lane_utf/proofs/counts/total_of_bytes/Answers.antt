use Rattle.std.proofs.Common.{arith}
use Rattle.lane_utf.proofs.UnitSums.{one_summed, sum_bound}
use Rattle.lane_utf.proofs.counts.total_of_bytes.Goals as goal

pub overflow_add-sum : goal.overflow_add-sum
overflow_add-sum g c = omega (arith, sum_bound (one_summed c.bytes.invariant c.bytes-test.true c.of_byte-sum.ensures) 2 g.met.M.Measure.small)

pub bytes-preserved : goal.bytes-preserved
bytes-preserved g c = one_summed c.bytes.invariant c.bytes-test.true c.of_byte-sum.ensures
