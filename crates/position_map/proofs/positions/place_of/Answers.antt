use Rattle.position_map.proofs.{Words.arith, Fronting.front_fits, OnLines.placed_here, OnLines.placed_split, OnLines.marks_fit}
use Rattle.position_map.proofs.positions.place_of.Goals as goal

pub overflow_add-line : goal.overflow_add-line
overflow_add-line c = omega (arith, marks_fit _ _ _ c.requires.cut _ c.requires.counted, c.end-end.ensures.scalars, c.end-end.type_inv)

pub overflow_add-units : goal.overflow_add-units
overflow_add-units c = omega (arith, front_fits _ _ _ _ _ c.requires.cut.is c.end-end.ensures, c.sum_in.ensures, c.units_in.ensures, c.end-end.type_inv)

pub overflow_sub-result : goal.overflow_sub-result
overflow_sub-result c =
    (placed_split _ _ _ c.requires.cut _ c.parts_cr_lf.ensures c.args.unit _ _ _ c.requires.counted c.sum_in.ensures c.units_in.ensures c.if-parts_cr_lf.true).0

pub overflow_sub-result-then-parts_cr_lf : goal.overflow_sub-result-then-parts_cr_lf
overflow_sub-result-then-parts_cr_lf c =
    (placed_split _ _ _ c.requires.cut _ c.parts_cr_lf.ensures c.args.unit _ _ _ c.requires.counted c.sum_in.ensures c.units_in.ensures c.if-parts_cr_lf.true).1

pub returns-then-parts_cr_lf : goal.returns-then-parts_cr_lf
returns-then-parts_cr_lf c =
    (placed_split _ _ _ c.requires.cut _ c.parts_cr_lf.ensures c.args.unit _ _ _ c.requires.counted c.sum_in.ensures c.units_in.ensures c.if-parts_cr_lf.true).2

pub returns-else-parts_cr_lf : goal.returns-else-parts_cr_lf
returns-else-parts_cr_lf c =
    placed_here _ _ _ c.requires.cut _ c.parts_cr_lf.ensures c.args.unit _ _ _ c.requires.counted c.sum_in.ensures c.units_in.ensures c.if-parts_cr_lf.false
