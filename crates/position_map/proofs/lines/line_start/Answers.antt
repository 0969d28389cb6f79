use Rattle.position_map.proofs.{Words.arith, Pointing.first_line_start, Pointing.no_line_from}
use Rattle.position_map.proofs.lines.line_start.Goals as goal

pub returns-then-n-eq0-clause-start : goal.returns-then-n-eq0-clause-start
returns-then-n-eq0-clause-start c = first_line_start _ _ _ (omega arith)

pub returns-in-None-clause-start : goal.returns-in-None-clause-start
returns-in-None-clause-start c = no_line_from _ _ (omega arith) c.in-None.ensures.place
