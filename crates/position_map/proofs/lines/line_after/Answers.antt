use Rattle.position_map.proofs.NextLines.{line_ahead, ahead_room}
use Rattle.position_map.proofs.lines.line_after.Goals as goal

pub overflow_sub-start : goal.overflow_sub-start
overflow_sub-start c = ahead_room _ _ _ _ c.args.m _ c.requires.mark c.line_behind-start.ensures.start

pub returns-clause-next : goal.returns-clause-next
returns-clause-next c = line_ahead _ _ c.args.m _ c.requires.mark c.line_behind-start.ensures.start c.rest_behind-rest.ensures
