use Rattle.std.proofs.Common.{refl, ◌∙◌}
use Rattle.lane_utf.proofs.TextSums.{leads-weigh, scalars_of_text}
use Rattle.lane_utf.proofs.laws.law_leads.Goals as goal

pub returns : goal.returns
returns c bytes spelt = leads-weigh bytes ∙ scalars_of_text bytes bytes spelt refl
