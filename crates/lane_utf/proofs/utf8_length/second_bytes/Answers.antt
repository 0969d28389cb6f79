use Rattle.std.proofs.Common.{arith, w16}
use Rattle.lane_utf.proofs.Measures.{mask_least}
use Rattle.lane_utf.proofs.utf8_length.second_bytes.Goals as goal

pub returns : goal.returns
returns g c = mask_least w16 g.row.N 128 c.args.lanes c.fits-lanes.0 (omega arith)
