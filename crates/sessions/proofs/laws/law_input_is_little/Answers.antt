use Rattle.sessions.proofs.Others as others
use Rattle.sessions.proofs.laws.law_input_is_little.Goals as goal

pub returns : goal.returns
returns c = others.input_is_little
