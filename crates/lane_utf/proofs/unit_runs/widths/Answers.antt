use Rattle.std.proofs.Common.{◌∙◌, map-id}
use Rattle.lane_utf.proofs.UnitForms.{of_widths}
use Rattle.lane_utf.proofs.unit_runs.widths.Goals as goal

pub overflow_cast-result : goal.overflow_cast-result
overflow_cast-result c = (of_widths c.args.lanes _ c.fits-lanes.0 c.fits-lanes.1 c.by_width.ensures).1

pub returns : goal.returns
returns c = map-id _ ∙ (of_widths c.args.lanes _ c.fits-lanes.0 c.fits-lanes.1 c.by_width.ensures).0
