use Rattle.std.{proofs.Common.ap, proofs.Common.◌∙◌, specs.Int.RustNames.count_ones}
use Rattle.lane_ascii.specs.Leads.{is_lead}
use Rattle.lane_utf.proofs.Measures.{ones_counted}
use Rattle.lane_utf.proofs.measure.scalars_of.Goals as goal

pub returns : goal.returns
returns g c = ap count_ones c.leads_in.ensures ∙ ones_counted is_lead c.args.lanes
