use Rattle.gate.proofs.Streams.{served}
use Rattle.gate.proofs.stdio.serve_stdio.Goals as goal

pub returns-clause-runs : goal.returns-clause-runs
returns-clause-runs g c = served _ _ _ c.serve_over.new.gateway _ _ _ _ c.beginning-gateway.ensures c.serve_over.ensures.runs

pub returns-clause-unrecorded : goal.returns-clause-unrecorded
returns-clause-unrecorded g c = c.serve_over.ensures.keeps tt
