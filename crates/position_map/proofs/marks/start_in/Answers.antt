use Rattle.position_map.proofs.{Words.arith, NextLines.ahead_room, NextLines.start_units, Pointing.point-within}
use Rattle.position_map.proofs.marks.start_in.Goals as goal

pub overflow_sub-length : goal.overflow_sub-length
overflow_sub-length c = ahead_room _ _ _ _ _ _ c.mark_at-m.ensures c.requires.start

pub overflow_add-result : goal.overflow_add-result
overflow_add-result c =
    let s = start_units _ _ _ _ _ _ c.mark_at-m.ensures c.requires.start in
    omega (arith, (point-within _ _ _ _ s.point c.end-end.ensures).1, c.end-end.type_inv)

pub returns : goal.returns
returns c = start_units _ _ _ _ _ _ c.mark_at-m.ensures c.requires.start
