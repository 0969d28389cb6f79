use Rattle.position_map.proofs.{Words.refl, Fronting.front_found, Fronting.front_inside, Fronting.front_not_past}
use Rattle.position_map.proofs.positions.front_at.Goals as goal

pub unreachable-requires : goal.unreachable-requires
unreachable-requires c = front_not_past _ _ _ _ _ _ _ c.axis_of.ensures c.sum_in.ensures c.locate.ensures.place c.in-Past.ensures c.requires

pub returns-in-At-clause-front : goal.returns-in-At-clause-front
returns-in-At-clause-front c = front_found _ _ _ _ _ _ _ c.axis_of.ensures c.sum_in.ensures c.locate.ensures.place _ c.in-At.ensures

pub returns-in-Inside-clause-front : goal.returns-in-Inside-clause-front
returns-in-Inside-clause-front c = (front_inside _ _ _ _ _ _ _ c.axis_of.ensures c.sum_in.ensures c.locate.ensures.place c.in-Inside.ensures, refl)
