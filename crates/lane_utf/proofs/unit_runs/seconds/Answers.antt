use Rattle.lane_utf.proofs.UnitForms.{of_seconds}
use Rattle.lane_utf.proofs.unit_runs.seconds.Goals as goal

pub returns : goal.returns
returns c = (of_seconds c.args.lanes _ _ _ c.fits-lanes.1 c.bits_of-trails.ensures c.bits_of.ensures c.by_width.ensures).0
