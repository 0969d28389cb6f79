use Rattle.position_map.proofs.Bytes.{mark_cut_at, no_mark_cut, mark_boundary}
use Rattle.position_map.proofs.cuts.split_at_mark.Goals as goal

pub returns-in-None : goal.returns-in-None
returns-in-None c = no_mark_cut c.law_marks.ensures.marks c.law_marks.ensures.ends _ _ _ _ c.utf8.text c.as_bytes.ensures.value c.in-None.ensures

pub returns-in-Some : goal.returns-in-Some
returns-in-Some c = (
  mark_cut_at c.law_marks.ensures.marks c.law_marks.ensures.ends _ _ _ _ _ _ _ c.utf8.text c.as_bytes.ensures.value c.in-Some.ensures
      c.split_at.ensures.front c.split_at.ensures.back,
  c.count_scalars.ensures,
)

pub split_at-requires : goal.split_at-requires
split_at-requires c = mark_boundary _ _ _ _ _ c.as_bytes.ensures.value c.in-Some.ensures
