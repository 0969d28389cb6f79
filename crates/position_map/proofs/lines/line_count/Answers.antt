use Rattle.position_map.proofs.{Words.◌∙◌, LineMarks.line_count}
use Rattle.position_map.proofs.lines.line_count.Goals as goal

pub returns-clause-ends : goal.returns-clause-ends
returns-clause-ends c = rw c.of-parts.ensures.doc at (c.line_count.ensures.lines ∙ line_count _)
