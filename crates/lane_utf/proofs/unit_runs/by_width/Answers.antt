use Rattle.lane_utf.proofs.UnitForms.{lanes_by_width}
use Rattle.lane_utf.proofs.unit_runs.by_width.Goals as goal

pub returns : goal.returns
returns c = lanes_by_width c.args.lanes c.args.one c.args.two c.args.three c.fits-lanes.0
