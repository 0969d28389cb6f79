use Rattle.position_map.proofs.{Words.refl, Words.arith, Words.chars-nil, NextLines.first_ahead, Pointing.no_line_from}
use Rattle.position_map.proofs.lines.first_line.Goals as goal

pub returns-then-n-eq0-clause-next : goal.returns-then-n-eq0-clause-next
returns-then-n-eq0-clause-next c = first_ahead _ _ _ c.if-n-eq0.true refl chars-nil

pub returns-in-None-clause-next : goal.returns-in-None-clause-next
returns-in-None-clause-next c = no_line_from _ _ (omega arith) c.in-None.ensures.place
