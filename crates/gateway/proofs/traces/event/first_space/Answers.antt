use Rattle.gateway.proofs.Words.{first_space}
use Rattle.gateway.proofs.traces.event.first_space.Goals as goal

pub returns : goal.returns
returns c = first_space c.args.words.now c.memchr.result c.memchr.ensures
