use Rattle.position_map.proofs.{Words.arith, Fronting.offset_none, Pointing.first_line_start, Pointing.no_line_from}
use Rattle.position_map.proofs.positions.offset_at.Goals as goal

pub offset_from-requires : goal.offset_from-requires
offset_from-requires c = first_line_start _ _ _ (omega arith)

pub returns-in-None-clause-offset : goal.returns-in-None-clause-offset
returns-in-None-clause-offset c = offset_none c.args.unit _ c.args.position _ (no_line_from _ _ (omega arith) c.in-None.ensures.place) c.end.ensures
