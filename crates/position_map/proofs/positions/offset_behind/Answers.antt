use Rattle.position_map.proofs.{Words.arith, NextLines.offset_first, NextLines.offset_near, NextLines.next_at}
use Rattle.position_map.proofs.positions.offset_behind.Goals as goal

pub returns-then-position-eq0-clause-offset : goal.returns-then-position-eq0-clause-offset
returns-then-position-eq0-clause-offset c = offset_first _ _ _ _ (next_at _ _ _ _ c.line_after-next.ensures.next (omega arith)) c.if-position-eq0.true

pub returns-in-Some-clause-offset : goal.returns-in-Some-clause-offset
returns-in-Some-clause-offset c =
    offset_near _ _ _ _ _ _ _ (next_at _ _ _ _ c.line_after-next.ensures.next (omega arith)) c.in-Some.ensures.0 c.offset_in.ensures
