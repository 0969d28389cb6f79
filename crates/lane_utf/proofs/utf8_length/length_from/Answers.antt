use Rattle.std.proofs.Common.{arith}
use Rattle.lane_utf.proofs.UnitSums.{one_summed, sum_bound, weight-le}
use Rattle.lane_utf.proofs.utf8_length.length_from.Goals as goal

pub overflow_add-total : goal.overflow_add-total
overflow_add-total c = omega (arith, sum_bound (one_summed c.units.invariant c.units-test.true c.unit_weight-total.ensures) 3 weight-le)

pub units-preserved : goal.units-preserved
units-preserved c = one_summed c.units.invariant c.units-test.true c.unit_weight-total.ensures
