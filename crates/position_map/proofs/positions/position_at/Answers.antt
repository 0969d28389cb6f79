use Rattle.position_map.proofs.{Words.arith, LastLines.position_near, LastLines.some_end, OnLines.marks_fit}
use Rattle.position_map.proofs.positions.position_at.Goals as goal

pub overflow_add-result : goal.overflow_add-result
overflow_add-result c = omega (arith, marks_fit _ _ _ c.cut_at-cut.ensures.cut _ c.count_marks-marks.ensures, c.end-end.ensures.scalars, c.end-end.type_inv)

pub unreachable-requires : goal.unreachable-requires
unreachable-requires c = some_end c.cut_at-cut.result _ c.count_marks-marks.ensures c.if-marks-gt0.true c.in-None.ensures

pub returns-then-not-parts_cr_lf-clause-position : goal.returns-then-not-parts_cr_lf-clause-position
returns-then-not-parts_cr_lf-clause-position c =
    position_near _ _ _ _ _ _ _ _ c.cut_at-cut.ensures.cut c.in-Some.ensures c.parts_cr_lf.ensures c.if-not-parts_cr_lf.true
    c.count_marks-marks.ensures c.units_in.ensures c.requires
