use Rattle.std.proofs.Common.{◌+◌, ap, arith, drop, drop-drop, take}
use Rattle.lane_ascii.{specs.Leads.leads, proofs.FirstLines.leads-more, proofs.FirstLines.leads-sum}
use Rattle.lane_ascii.proofs.first_line.leads_of_64.Goals as goal

-- each half has 32 at most
pub sum_of_lanes-requires : goal.sum_of_lanes-requires
sum_of_lanes-requires c =
    let low = leads-sum 32 (drop c.args.at c.args.bytes.now) _ c.lead_ones.ensures in
    let high = leads-sum 32 (drop (c.args.at + 32) c.args.bytes.now) _ c.lead_ones-2.ensures in
    omega (arith, low.1, high.1)

pub returns : goal.returns
returns c =
    let behind = drop c.args.at c.args.bytes.now in
    let low = leads-sum 32 behind _ c.lead_ones.ensures in
    let high = leads-sum 32 (drop (c.args.at + 32) c.args.bytes.now) _ c.lead_ones-2.ensures in
    omega (arith, c.sum_of_lanes.ensures, low.0, high.0, leads-more 32 32 behind, ap (λ bs. leads (take 32 bs)) (drop-drop 32 c.args.at c.args.bytes.now))
