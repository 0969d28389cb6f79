use Rattle.position_map.proofs.{Words.arith, Pointing.behind_start, Pointing.point-within}
use Rattle.position_map.proofs.marks.line_behind.Goals as goal

pub overflow_add-result : goal.overflow_add-result
overflow_add-result c =
    let start = behind_start _ _ _ _ _ c.requires.mark _ (c.is_cr_lf.ensures.is c.args.unit c.args.n c.requires.mark) c.from-length.ensures in
    omega (arith, point-within _ _ _ _ start.point c.end-end.ensures, c.end-end.type_inv)

pub overflow_add-result-2 : goal.overflow_add-result-2
overflow_add-result-2 c =
    let start = behind_start _ _ _ _ _ c.requires.mark _ (c.is_cr_lf.ensures.is c.args.unit c.args.n c.requires.mark) c.from-length.ensures in
    omega (arith, point-within _ _ _ _ start.point c.end-end.ensures, c.end-end.type_inv)

pub returns-clause-start : goal.returns-clause-start
returns-clause-start c =
    behind_start _ _ _ _ _ c.requires.mark _ (c.is_cr_lf.ensures.is c.args.unit c.args.n c.requires.mark) c.from-length.ensures
