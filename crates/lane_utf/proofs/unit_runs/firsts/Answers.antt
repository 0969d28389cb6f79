use Rattle.lane_utf.proofs.UnitForms.{of_firsts}
use Rattle.lane_utf.proofs.unit_runs.firsts.Goals as goal

pub returns : goal.returns
returns c = (of_firsts c.args.lanes _ _ _ c.fits-lanes.1 c.bits_of.ensures c.bits_of-2.ensures c.by_width.ensures).0
