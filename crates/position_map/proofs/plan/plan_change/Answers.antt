use Rattle.position_map.proofs.{Words.sym, Words.◌∙◌, Words.inserted_of, Words.err_from_is_err_and, Words.text_of, Ordering.ordered, Ordering.offset_within}
use Rattle.position_map.proofs.Planning.{at_document, refused_end, whole_text, behind, start_refused, end_refused, over_ends}
use Rattle.position_map.proofs.plan.plan_change.Goals as goal

pub returns-in_default-clause-plan : goal.returns-in_default-clause-plan
returns-in_default-clause-plan c =
    let new = inserted_of c.args.insertion in
    rw (← c.of-parts.ensures.doc, whole_text c.of-parts.result.doc c.args.range c.args.unit new c.in_default.is, ← c.end-end.ensures.scalars)
    c.replace.ensures.plan

pub returns-then-is_behind-clause-plan : goal.returns-then-is_behind-clause-plan
returns-then-is_behind-clause-plan c =
    behind c.args.doc.now c.args.range c.args.unit (inserted_of c.args.insertion) c.in-Some.range c.in-Some.is (sym c.is_behind.ensures ∙ c.if-is_behind.true)

pub returns-in_err-i-clause-plan : goal.returns-in_err-i-clause-plan
returns-in_err-i-clause-plan c =
    let e = err_from_is_err_and c.from_residual.result c.from_residual.ensures.1 in
    let i = at_document _ _ c.of-parts.ensures.doc c.in_err-i.ensures.offset in
    rw (e.1, e.2)
    (refused_end _ c.in_err-i.field-0.0
    (start_refused c.args.doc.now c.args.range c.args.unit (inserted_of c.args.insertion) c.in-Some.range c.in-Some.is c.in_err-i.field-0.0
    (sym c.is_behind.ensures ∙ c.if-is_behind.false) i))

pub returns-in_err-j-clause-plan : goal.returns-in_err-j-clause-plan
returns-in_err-j-clause-plan c =
    let e = err_from_is_err_and c.from_residual-in_err-j.result c.from_residual-in_err-j.ensures.1 in
    let i = at_document _ _ c.of-parts.ensures.doc c.in_ok-i.ensures.offset in
    let j = at_document _ _ c.of-parts.ensures.doc c.in_err-j.ensures.offset in
    rw (e.1, e.2)
    (refused_end _ c.in_err-j.field-0.0
    (end_refused c.args.doc.now c.args.range c.args.unit (inserted_of c.args.insertion) c.in-Some.range c.in-Some.is c.in_ok-i.i
    c.in_err-j.field-0.0 (sym c.is_behind.ensures ∙ c.if-is_behind.false) i j))

pub replace-requires-2-clause-order : goal.replace-requires-2-clause-order
replace-requires-2-clause-order c =
    ordered (text_of c.of-parts.result.doc) c.args.unit c.in-Some.range.start c.in-Some.range.end c.in_ok-i.i c.in_ok-j.j
    (sym c.is_behind.ensures ∙ c.if-is_behind.false) (sym c.in_ok-i.ensures.offset) (sym c.in_ok-j.ensures.offset)

pub replace-requires-2-clause-within : goal.replace-requires-2-clause-within
replace-requires-2-clause-within c = offset_within (text_of c.of-parts.result.doc) c.args.unit c.in-Some.range.end c.in_ok-j.j (sym c.in_ok-j.ensures.offset)

pub returns-clause-plan : goal.returns-clause-plan
returns-clause-plan c =
    let planned = over_ends c.of-parts.result.doc c.args.range c.args.unit (inserted_of c.args.insertion) c.in-Some.range c.in-Some.is c.in_ok-i.i
    c.in_ok-j.j (sym c.is_behind.ensures ∙ c.if-is_behind.false) c.in_ok-i.ensures.offset c.in_ok-j.ensures.offset in
    rw (← c.of-parts.ensures.doc, planned) c.replace-2.ensures.plan
