use Rattle.std.proofs.Common.{arith}
use Rattle.lane_ascii.specs.Leads.{is_lead}
use Rattle.lane_utf.{specs.Weights.begins_four, proofs.Measures.both_left, proofs.Measures.both-le}
use Rattle.lane_utf.proofs.measure.Utf16UnitsMeasure.behind.Goals as goal

pub overflow_add-result : goal.overflow_add-result
overflow_add-result c =
    let few = both-le is_lead begins_four c.args.skipped c.args.lanes c.leads_in.ensures c.fours.ensures c.ones_behind.ensures c.ones_behind-2.ensures in
    omega (arith, few, c.fits-lanes.0)

pub returns : goal.returns
returns c = both_left is_lead begins_four c.args.skipped c.args.lanes c.leads_in.ensures c.fours.ensures c.ones_behind.ensures c.ones_behind-2.ensures
