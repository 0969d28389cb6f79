use Rattle.position_map.proofs.{Words.refl, OnLines.cut_found, OnLines.none_past}
use Rattle.position_map.proofs.positions.cut_at.Goals as goal

pub unreachable-requires : goal.unreachable-requires
unreachable-requires c = none_past _ _ _ _ c.locate.ensures.place c.in-None.ensures.cut c.requires

pub returns-clause-cut : goal.returns-clause-cut
returns-clause-cut c = cut_found _ _ _ _ c.locate.ensures.place c.in-Some.ensures.cut refl
