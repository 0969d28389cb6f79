use Rattle.std.proofs.Common.{◌∙◌, sym, eqb-true}
use Rattle.lane_utf.{specs.Weights.has_three, proofs.UnitRuns.all_set}
use Rattle.lane_utf.proofs.unit_runs.are_threes.Goals as goal

pub returns : goal.returns
returns c e = all_set has_three c.args.lanes c.fits-lanes.0 (sym c.third_bytes.ensures ∙ eqb-true _ 255 e)
