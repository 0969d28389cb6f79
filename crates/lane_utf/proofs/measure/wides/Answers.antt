use Rattle.std.proofs.Common.{arith, w8}
use Rattle.lane_utf.proofs.Measures.{mask_least}
use Rattle.lane_utf.proofs.measure.wides.Goals as goal

pub returns : goal.returns
returns g c = mask_least w8 g.row.N 192 c.args.lanes c.fits-lanes.0 (omega arith)
