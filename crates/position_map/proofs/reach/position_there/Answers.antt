use Rattle.position_map.proofs.{Words.refl, Reaching.position-there}
use Rattle.position_map.proofs.reach.position_there.Goals as goal

pub returns : goal.returns
returns c = λ unit text l. position-there unit text c.args.at.now _ l refl c.saturating_sub.ensures
