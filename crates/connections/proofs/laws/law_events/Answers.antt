use Rattle.connections.proofs.Took as took
use Rattle.connections.proofs.laws.law_events.Goals as goal

pub returns : goal.returns
returns c = record { within = took.took_within; some = took.took_some; stays_open = took.open_after }
