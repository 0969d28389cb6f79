use Rattle.std.proofs.Common.{arith}
use Rattle.lane_utf.proofs.UnitMasks.{mask_between}
use Rattle.lane_utf.proofs.surrogates.trails.Goals as goal

pub returns : goal.returns
returns g c = mask_between g.row.N 56320 57344 c.args.lanes c.fits-lanes.0 (omega arith)
