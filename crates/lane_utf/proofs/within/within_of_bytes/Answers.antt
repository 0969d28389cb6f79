use Rattle.std.proofs.Common.{arith}
use Rattle.lane_utf.proofs.FrontCounts.{one_counted, count_bound}
use Rattle.lane_utf.proofs.within.within_of_bytes.Goals as goal

pub overflow_add-count : goal.overflow_add-count
overflow_add-count g c =
    omega (arith, count_bound (one_counted c.bytes.invariant c.bytes-test.true c.of_byte-weight.ensures c.if-weight-left.false c.lead_of-count.ensures))

pub bytes-preserved : goal.bytes-preserved
bytes-preserved g c = one_counted c.bytes.invariant c.bytes-test.true c.of_byte-weight.ensures c.if-weight-left.false c.lead_of-count.ensures
