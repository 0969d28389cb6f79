use Rattle.std.proofs.Common.{sym, ◌∙◌, eqb-true}
use Rattle.lane_utf.proofs.UnitRuns.{none_has_two}
use Rattle.lane_utf.proofs.unit_runs.are_ones.Goals as goal

pub returns : goal.returns
returns g c e = sym c.fits-lanes.0 ∙ none_has_two c.args.lanes (sym c.second_bytes.ensures ∙ eqb-true _ 0 e)
