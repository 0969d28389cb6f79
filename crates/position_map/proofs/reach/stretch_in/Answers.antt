use Rattle.position_map.proofs.{Words.refl, Reaching.stretch-in}
use Rattle.position_map.proofs.reach.stretch_in.Goals as goal

pub returns-clause-stretch : goal.returns-clause-stretch
returns-clause-stretch c = stretch-in c.args.unit _ c.args.offset c.locate.result.0 _ _ c.locate.ensures.place c.in-Some.ensures.cut refl c.sum_in.ensures refl
