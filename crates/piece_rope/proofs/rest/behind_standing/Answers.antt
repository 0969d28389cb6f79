use Rattle.piece_rope.proofs.Prelude.{◌≡◌, slice_get, None, sym, ◌∙◌, arith, slice_get_within, parts_of}
use Rattle.piece_rope.proofs.{Matching.if_none, Parting.parts-length}
use Rattle.piece_rope.proofs.Matching.{found-on, not-found-on, step-bytes, step-enough, step-fits, nothing-behind}
use Rattle.piece_rope.proofs.rest.behind_standing.Goals as goal

pub unreachable-requires : goal.unreachable-requires
unreachable-requires c =
    let parts = parts_of c.args.edited.pieces.now.items c.args.tail.now in
    let none : None ≡ slice_get parts c.parts.place = c.in_default.ensures in
    nothing-behind parts c.parts.place c.parts.skip c.parts.left (sym none) c.parts.invariant.enough c.parts-test.true

pub overflow_add-skip : goal.overflow_add-skip
overflow_add-skip c =
    let parts = parts_of c.args.edited.pieces.now.items c.args.tail.now in
    let at = sym c.in-Some.ensures in
    let taken = rw c.sum.ensures at c.min-taken.ensures in
    let fits = step-fits parts c.parts.place c.parts.skip c.parts.left at (c.parts.invariant.begun c.in-Some.part.now at) taken in
    omega (arith, fits c.as_str.result.now c.as_str.utf8 (c.as_str.ensures ∙ c.text.ensures), c.as_str.type_inv.0)

pub returns-in_err-rest-clause-none : goal.returns-in_err-rest-clause-none
returns-in_err-rest-clause-none c =
    let parts = parts_of c.args.edited.pieces.now.items c.args.tail.now in
    let at = sym c.in-Some.ensures in
    let taken = rw c.sum.ensures at c.min-taken.ensures in
    let bytes = step-bytes parts c.parts.place c.parts.skip c.parts.left at (c.parts.invariant.begun c.in-Some.part.now at) taken
    (c.as_str.ensures ∙ c.text.ensures) c.in-Some-scalars_between.ensures.part c.as_bytes.ensures.value in
    if_none _ c.from_residual.result (not-found-on _ _ c.parts.invariant.found bytes c.in_err-rest.ensures.none)

pub overflow_add-place : goal.overflow_add-place
overflow_add-place c =
    let ps = c.args.edited.pieces.now.items in
    let within = slice_get_within (parts_of ps c.args.tail.now) c.parts.place c.in-Some.part.now (sym c.in-Some.ensures) in
    omega (arith, within, parts-length ps c.args.tail.now, c.args.edited.prepared.few_old)

pub parts-preserved : goal.parts-preserved
parts-preserved c =
    let parts = parts_of c.args.edited.pieces.now.items c.args.tail.now in
    let at = sym c.in-Some.ensures in
    let begun = c.parts.invariant.begun c.in-Some.part.now at in
    let taken = rw c.sum.ensures at c.min-taken.ensures in
    let bytes = step-bytes parts c.parts.place c.parts.skip c.parts.left at begun taken
    (c.as_str.ensures ∙ c.text.ensures) c.in-Some-scalars_between.ensures.part c.as_bytes.ensures.value in
    record {
      found = found-on _ c.parts.invariant.found bytes c.in_ok-rest.ensures.some;
      enough = step-enough parts c.parts.place c.parts.skip c.parts.left at begun taken c.parts.invariant.enough;
      begun = λ part next. omega arith;
    }
