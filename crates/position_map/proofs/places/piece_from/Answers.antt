use Rattle.position_map.proofs.Items.{next_by}
use Rattle.position_map.proofs.places.piece_from.Goals as goal

pub returns-clause-piece : goal.returns-clause-piece
returns-clause-piece c = next_by _ _ _ _ c.tail-tail.result _ c.tail-tail.ensures.whole c.find.ensures.place c.tail-tail.ensures.tail c.unwrap_or.ensures
