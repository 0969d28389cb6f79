use Rattle.std.proofs.lemmas.Simd.{shifts_fit_splat}
use Rattle.lane_utf.proofs.UnitRuns.{parts}
use Rattle.lane_utf.proofs.unit_runs.bits_of.Goals as goal

pub overflow_shr-result : goal.overflow_shr-result
overflow_shr-result g c = shifts_fit_splat 16 c.args.lanes g.row.N c.args.shift c.requires.shift

pub returns : goal.returns
returns g c = parts g.row.N c.args.lanes c.args.shift c.args.mask c.args.mark c.fits-lanes.0 c.requires.byte
