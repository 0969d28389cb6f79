use Rattle.gate.proofs.Streams.{replayed}
use Rattle.gate.proofs.replay.replay.Goals as goal

pub returns-in-Ok-clause-replays : goal.returns-in-Ok-clause-replays
returns-in-Ok-clause-replays g c = replayed _ _ _ c.trace_with_head.new.gateway _ _ _ _ c.beginning-gateway.ensures c.in-Ok.ensures.traces

pub returns-clause-replays : goal.returns-clause-replays
returns-clause-replays g c = rw c.failure_of.ensures (replayed _ _ _ c.trace_with_head.new.gateway _ _ _ _ c.beginning-gateway.ensures c.in-Err.ensures.traces)
