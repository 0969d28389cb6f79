use Rattle.position_map.proofs.Bytes.{end_boundary, last_line_at, no_last_line}
use Rattle.position_map.proofs.marks.last_line.Goals as goal

pub split_at-requires : goal.split_at-requires
split_at-requires c = end_boundary _ _ _ c.utf8.text c.as_bytes.ensures.value c.in-Some.ensures

pub returns-in-None : goal.returns-in-None
returns-in-None c = no_last_line c.law_marks.ensures.marks c.law_marks.ensures.ends _ _ c.utf8.text c.as_bytes.ensures.value c.in-None.ensures

pub returns-in-Some : goal.returns-in-Some
returns-in-Some c = last_line_at c.law_marks.ensures.marks c.law_marks.ensures.ends _ _ _ _ c.utf8.text c.as_bytes.ensures.value
    c.in-Some.ensures c.split_at.ensures.back
