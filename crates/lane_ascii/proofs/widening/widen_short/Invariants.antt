use Rattle.std.proofs.Common.{◌≡◌}
use Rattle.lane_ascii.proofs.Widens.{written}
use Rattle.lane_ascii.proofs.widening.widen_short.Given as goal

abbrev pub invariant-bytes : goal.invariant-bytes
invariant-bytes l = l.units ≡ written l.bytes l.fn.units l.at
