use Rattle.std.proofs.{Common.◌+◌, Common.arith, Common.drop, Common.map, Common.take, lemmas.List.Sums.prefix_len-le-length}
use Rattle.lane_ascii.proofs.FirstLines.{IsWalked, block-le, block_ends, block_walked, byte_ends, byte_goes_on, walked-le, walked-within}
use Rattle.lane_ascii.{proofs.first_line.line_front_by_16.Goals.After-ones_before-leads, specs.Leads.in_line, specs.Leads.is_lead}
use Rattle.lane_ascii.proofs.first_line.line_front_by_16.Goals as goal

pub overflow_sub-bytes : goal.overflow_sub-bytes
overflow_sub-bytes c = walked-within c.steps.invariant

walked : (c : After-ones_before-leads) → IsWalked c.args.bytes.now (c.steps.at + c.lowest_set-front.result) (c.steps.leads + c.ones_before-leads.result)
walked c =
    block_walked c.args.bytes.now c.steps.at 16 c.ends_in.result c.lowest_set-front.result c.steps.invariant.within
    (omega (arith, c.steps-test.true, walked-within c.steps.invariant)) (omega arith) c.ends_in.ensures c.lowest_set-front.ensures
    c.steps.invariant.counted (c.ones_before-leads.ensures (map is_lead (take 16 (drop c.steps.at c.args.bytes.now))) c.leads_in.ensures)

pub ones_before-leads-requires : goal.ones_before-leads-requires
ones_before-leads-requires c =
    let room = walked-within c.steps.invariant in
    omega (arith, block-le c.args.bytes.now c.steps.at 16 _ _ c.steps.invariant.within (omega arith) (omega arith) c.ends_in.ensures c.lowest_set-front.ensures)

pub overflow_add-leads : goal.overflow_add-leads
overflow_add-leads c = omega (arith, walked-le (walked c))

pub returns-then-front-lt16-clause-at : goal.returns-then-front-lt16-clause-at
returns-then-front-lt16-clause-at c =
    block_ends c.args.bytes.now c.steps.at 16 _ _ c.steps.invariant.within
    (omega (arith, c.steps-test.true, walked-within c.steps.invariant)) (omega arith) c.ends_in.ensures c.lowest_set-front.ensures c.if-front-lt16.true

pub returns-then-front-lt16-clause-leads : goal.returns-then-front-lt16-clause-leads
returns-then-front-lt16-clause-leads c = (walked (goal.at.returns-then-front-lt16-clause-leads c).After-ones_before-leads).counted

pub steps-preserved : goal.steps-preserved
steps-preserved c = walked (goal.at.steps-preserved c).After-ones_before-leads

pub overflow_add-leads-in-bytes : goal.overflow_add-leads-in-bytes
overflow_add-leads-in-bytes c = omega (arith, walked-le (byte_goes_on c.bytes.invariant c.bytes-test.true c.if-in_line.ensures c.lead_of-leads.ensures))

pub bytes-preserved : goal.bytes-preserved
bytes-preserved c = byte_goes_on c.bytes.invariant c.bytes-test.true c.if-in_line.ensures c.lead_of-leads.ensures

pub returns-else-in_line-clause-at : goal.returns-else-in_line-clause-at
returns-else-in_line-clause-at c = byte_ends c.bytes.invariant c.bytes-test.true c.if-in_line.ensures

pub returns-after-bytes-clause-at : goal.returns-after-bytes-clause-at
returns-after-bytes-clause-at c = omega (arith, c.bytes.invariant.within, prefix_len-le-length in_line c.args.bytes.now, c.bytes-test.false)
