use Rattle.lane_ascii.specs.Leads.{is_lead}
use Rattle.lane_utf.{specs.Weights.begins_four, proofs.Measures.both_counted}
use Rattle.lane_utf.proofs.measure.units_of.Goals as goal

pub returns : goal.returns
returns g c = both_counted is_lead begins_four c.args.lanes _ _ c.leads_in.ensures c.fours.ensures
