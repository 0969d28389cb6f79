use Rattle.desk.proofs.AsPlanned as planned
use Rattle.desk.proofs.laws.law_plans_foretell_changes.Goals as goal

pub returns : goal.returns
returns c = record { foretell = planned.plans_foretell_changes; refused = planned.refused_plans_refuse_changes }
