use Rattle.lane_utf.proofs.UnitForms.{numbers}
use Rattle.lane_utf.proofs.unit_runs.forms.Goals as goal

pub returns : goal.returns
returns c = numbers c.args.lanes _ _ _ c.fits-lanes.0 c.fits-lanes.1 c.firsts.ensures c.seconds.ensures c.bits_of-ends.ensures
