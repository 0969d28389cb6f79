use Rattle.sum_tree.proofs.Levels.{even}
use Rattle.sum_tree.proofs.build.halved.Goals as goal

pub returns-clause-half : goal.returns-clause-half
returns-clause-half c = even c.args.height c.args.width c.requires.height c.requires.width
