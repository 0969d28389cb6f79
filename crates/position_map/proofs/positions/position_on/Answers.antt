use Rattle.position_map.proofs.OnLines.{position_found, units_room}
use Rattle.position_map.proofs.positions.position_on.Goals as goal

pub overflow_sub-result : goal.overflow_sub-result
overflow_sub-result c = units_room _ _ _ _ _ c.requires.place c.in-Some.ensures.start

pub returns-clause-position : goal.returns-clause-position
returns-clause-position c = position_found _ _ _ _ _ c.requires.place c.in-Some.ensures.start c.requires.within
