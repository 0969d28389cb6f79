use Rattle.position_map.proofs.NextLines.{last_found, line_found}
use Rattle.position_map.proofs.lines.line.Goals as goal

pub returns-in-None-next_mark-clause-line : goal.returns-in-None-next_mark-clause-line
returns-in-None-next_mark-clause-line c =
    rw c.of-parts.ensures.doc at (last_found _ _ c.in-Some.at _ c.in-Some.ensures.next c.in-None-next_mark.ensures.place c.end-last.ensures)

pub returns-in-Some-next_mark-clause-line : goal.returns-in-Some-next_mark-clause-line
returns-in-Some-next_mark-clause-line c =
    rw c.of-parts.ensures.doc at (line_found _ _ c.in-Some.at c.in-Some-next_mark.m c.in-Some.ensures.next c.in-Some-next_mark.ensures.place)
