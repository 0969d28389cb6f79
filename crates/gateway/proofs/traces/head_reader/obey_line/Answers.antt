use Rattle.gateway.proofs.Heads.{stuck_obeys}
use Rattle.gateway.proofs.traces.head_reader.obey_line.Goals as goal

pub returns-in-Dropped-clause-obeys : goal.returns-in-Dropped-clause-obeys
returns-in-Dropped-clause-obeys c =
    λ it words s. stuck_obeys (Unit {0}) c.dropped.result it _ words (c.dropped.ensures it (rw c.in-Dropped.is at s))
