use Rattle.serving.proofs.Turns as turns
use Rattle.serving.proofs.serve.run.Goals as goal

pub returns-clause-serves : goal.returns-clause-serves
returns-clause-serves g c = turns.served _ c.run.ensures.ran.0 _ _ _ _ c.run.ensures.ran.1.led c.run.ensures.seated c.run.ensures.end
