use Rattle.std.proofs.Common.{◌∙◌, sym}
use Rattle.lane_utf.proofs.Fronts.{single_at, pair_at}
use Rattle.lane_utf.proofs.to_utf8.front.Goals as goal

pub returns-then-not-is_lead : goal.returns-then-not-is_lead
returns-then-not-is_lead c =
    single_at c.args.units.now c.args.at c.from-unit.result c.requires.within c.type_inv.units c.requires.paired c.from-unit.ensures
    (sym c.is_lead.ensures ∙ c.if-not-is_lead.true)

pub returns : goal.returns
returns c =
    pair_at c.args.units.now c.args.at c.from-unit.result c.from-trail.result c.requires.within c.requires.paired c.from-unit.ensures c.from-trail.ensures
    (sym c.is_lead.ensures ∙ c.if-not-is_lead.false)
