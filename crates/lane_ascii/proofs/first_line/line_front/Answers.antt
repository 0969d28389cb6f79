use Rattle.std.proofs.Common.{arith, refl}
use Rattle.lane_ascii.proofs.FirstLines.{rest_ends, rest_walked, walked-le, walked-on, walked-within}
use Rattle.lane_ascii.proofs.first_line.line_front.Goals as goal

pub overflow_sub-bytes : goal.overflow_sub-bytes
overflow_sub-bytes c = walked-within c.parts.invariant

pub end_in_64-front-requires : goal.end_in_64-front-requires
end_in_64-front-requires c = record { front = c.parts.invariant.within; room = omega arith }

pub overflow_add-result-then-front-lt64 : goal.overflow_add-result-then-front-lt64
overflow_add-result-then-front-lt64 c =
    let end = c.end_in_64-front.ensures.end c.if-front-lt64.true in
    omega (arith, walked-le (walked-on c.parts.invariant c.end_in_64-front.result (omega (arith, end)) c.leads_before.ensures))

pub returns-then-front-lt64-clause-at : goal.returns-then-front-lt64-clause-at
returns-then-front-lt64-clause-at c = c.end_in_64-front.ensures.end c.if-front-lt64.true

pub returns-then-front-lt64-clause-leads : goal.returns-then-front-lt64-clause-leads
returns-then-front-lt64-clause-leads c =
    (walked-on c.parts.invariant c.end_in_64-front.result (omega (arith, c.end_in_64-front.ensures.end c.if-front-lt64.true)) c.leads_before.ensures).counted

pub overflow_add-leads : goal.overflow_add-leads
overflow_add-leads c =
    omega (arith, walked-le (walked-on c.parts.invariant 64 (c.end_in_64-front.ensures.none c.if-front-lt64.false) c.leads_of_64-leads.ensures))

pub parts-preserved : goal.parts-preserved
parts-preserved c = walked-on c.parts.invariant 64 (c.end_in_64-front.ensures.none c.if-front-lt64.false) c.leads_of_64-leads.ensures

pub slice_bounds-line_front_by_16-count : goal.slice_bounds-line_front_by_16-count
slice_bounds-line_front_by_16-count c = walked-within c.parts.invariant

pub slice_bounds-line_front_by_16-start : goal.slice_bounds-line_front_by_16-start
slice_bounds-line_front_by_16-start c = walked-within c.parts.invariant

pub overflow_add-result-3 : goal.overflow_add-result-3
overflow_add-result-3 c =
    omega (arith, walked-le (rest_walked c.parts.invariant _ _ _ refl c.line_front_by_16-rest.ensures.at c.line_front_by_16-rest.ensures.leads))

pub returns-clause-at : goal.returns-clause-at
returns-clause-at c = rest_ends c.parts.invariant _ _ _ refl c.line_front_by_16-rest.ensures.at c.line_front_by_16-rest.ensures.leads

pub returns-clause-leads : goal.returns-clause-leads
returns-clause-leads c = (rest_walked c.parts.invariant _ _ _ refl c.line_front_by_16-rest.ensures.at c.line_front_by_16-rest.ensures.leads).counted
