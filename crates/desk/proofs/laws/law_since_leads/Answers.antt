use Rattle.desk.proofs.LivesSince as life
use Rattle.desk.proofs.laws.law_since_leads.Goals as goal

pub returns : goal.returns
returns c = life.since_leads
