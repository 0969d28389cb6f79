use Rattle.sessions.proofs.Reaching as reaching
use Rattle.sessions.proofs.laws.law_acts_in_a_row.Goals as goal

pub returns : goal.returns
returns c = reaching.acts_in_a_row
