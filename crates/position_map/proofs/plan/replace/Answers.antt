use Rattle.position_map.proofs.Words.{refl, arith, ◌∙◌, inserted_of, err_from_is_err_and}
use Rattle.position_map.proofs.{ItemCutting.cut_fits, Planning.left_none, Planning.right_none, Planning.both, Planning.refused}
use Rattle.position_map.proofs.plan.replace.Goals as goal

pub returns-in_default-clause-plan : goal.returns-in_default-clause-plan
returns-in_default-clause-plan c = left_none _ _ refl c.args.i c.args.j (inserted_of c.args.insertion) c.in_default.ensures.cut

pub returns-in_default-cut_before-clause-plan : goal.returns-in_default-cut_before-clause-plan
returns-in_default-cut_before-clause-plan c =
    right_none _ _ refl c.args.i c.args.j (inserted_of c.args.insertion) c.in-Some.left c.in-Some.ensures.cut
    c.in_default-cut_before.ensures.cut

pub bytes_in-requires : goal.bytes_in-requires
bytes_in-requires c =
    cut_fits c.args.parts.doc c.args.parts.doc refl c.args.j c.in-Some-cut_before.right c.law_in_force.ensures.within c.in-Some-cut_before.ensures.cut

pub returns-in_err-bytes_in-clause-plan : goal.returns-in_err-bytes_in-clause-plan
returns-in_err-bytes_in-clause-plan c =
    let e = err_from_is_err_and c.from_residual.result c.from_residual.ensures.1 in
    let plan = both _ _ refl c.args.i c.args.j (inserted_of c.args.insertion) c.in-Some.left c.in-Some-cut_before.right c.in-Some.ensures.cut
    c.in-Some-cut_before.ensures.cut in
    rw (e.1, e.2) (refused _ _ _ _ _ c.in_err-bytes_in.field-0.0 _ plan c.in_err-bytes_in.ensures)

pub returns-clause-plan : goal.returns-clause-plan
returns-clause-plan c =
    both _ _ refl c.args.i c.args.j (inserted_of c.args.insertion) c.in-Some.left c.in-Some-cut_before.right c.in-Some.ensures.cut
    c.in-Some-cut_before.ensures.cut
    ∙ rw (c.in_ok-bytes_in.ensures, ← c.saturating_sub-del.ensures, ← c.new-ins.ensures) refl

pub returns-clause-fits : goal.returns-clause-fits
returns-clause-fits c =
    let left = cut_fits c.args.parts.doc c.args.parts.doc refl c.args.i c.in-Some.left c.law_in_force.ensures.within c.in-Some.ensures.cut in
    let right = cut_fits c.args.parts.doc c.args.parts.doc refl c.args.j c.in-Some-cut_before.right c.law_in_force.ensures.within
    c.in-Some-cut_before.ensures.cut in
    record { bytes = omega (arith, c.saturating_sub-del.ensures, left, right); order = c.requires.order; within = c.requires.within }
