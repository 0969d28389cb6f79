use Rattle.gateway.proofs.Feeding.{dropped_plays}
use Rattle.gateway.proofs.traces.line.play_line.Goals as goal

pub returns-in-Dropped-clause-plays : goal.returns-in-Dropped-clause-plays
returns-in-Dropped-clause-plays g c it known = dropped_plays (Unit {0}) c.dropped.result it _ _ (c.dropped.ensures.drops it (rw c.in-Dropped.is at known))
