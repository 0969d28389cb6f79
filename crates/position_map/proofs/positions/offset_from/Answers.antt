use Rattle.position_map.proofs.{Fronting.offset_found, Fronting.offset_room, Fronting.offset_past, Fronting.units_before_end, Pointing.has_line}
use Rattle.position_map.proofs.positions.offset_from.Goals as goal

pub overflow_sub-end : goal.overflow_sub-end
overflow_sub-end c = units_before_end _ _ _ _ _ c.requires (c.line_end-end.ensures.end (has_line _ _ _ _ c.requires))

pub scalar_at-requires : goal.scalar_at-requires
scalar_at-requires c = offset_room _ _ _ _ c.args.start _ (c.line_end-end.ensures.end (has_line _ _ _ _ c.requires)) c.if-position-end.true

pub returns-then-position-end-clause-offset : goal.returns-then-position-end-clause-offset
returns-then-position-end-clause-offset c =
    offset_found _ _ c.args.position _ _ _ c.requires (c.line_end-end.ensures.end (has_line _ _ _ _ c.requires)) c.if-position-end.true
    c.scalar_at.ensures.scalar

pub returns-else-position-end-clause-offset : goal.returns-else-position-end-clause-offset
returns-else-position-end-clause-offset c =
    offset_past _ _ c.args.position _ _ c.requires (c.line_end-end.ensures.end (has_line _ _ _ _ c.requires)) c.if-position-end.false
