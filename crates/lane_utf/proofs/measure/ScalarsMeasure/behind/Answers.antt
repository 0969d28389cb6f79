use Rattle.std.proofs.Common.{map, ◌∙◌}
use Rattle.lane_ascii.specs.Leads.{is_lead}
use Rattle.lane_utf.proofs.Measures.{ones_left}
use Rattle.lane_utf.proofs.measure.ScalarsMeasure.behind.Goals as goal

pub returns : goal.returns
returns c = c.ones_behind.ensures (map is_lead c.args.lanes) c.leads_in.ensures ∙ ones_left is_lead c.args.skipped c.args.lanes
