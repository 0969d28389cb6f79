use Rattle.position_map.proofs.Pointing.{line_end_at, last_line_end}
use Rattle.position_map.proofs.lines.line_end.Goals as goal

pub returns-in-None-clause-end : goal.returns-in-None-clause-end
returns-in-None-clause-end c = λ h. last_line_end _ _ _ _ c.end.ensures c.in-None.ensures.place h

pub returns-in-Some-clause-end : goal.returns-in-Some-clause-end
returns-in-Some-clause-end c = λ h. line_end_at _ _ _ _ c.in-Some.ensures.place
