use Rattle.std.proofs.Common.{◌+◌, ◌∙◌, refl, ap, arith, drop, drop-drop, take, take-add}
use Rattle.lane_ascii.specs.Leads.{one_lead}
use Rattle.lane_utf.{specs.Widths.total_width, proofs.Measures.leads-total}
use Rattle.lemmas.proofs.Recursion.{sum-append}
use Rattle.lane_utf.proofs.counts.scalars_in_128.Goals as goal

-- in each of 64 bytes one begins at most
pub sum_of_lanes-requires : goal.sum_of_lanes-requires
sum_of_lanes-requires c =
    let low = leads-total 64 (drop c.args.at c.args.bytes.now) _ c.lead_ones.ensures in
    let high = leads-total 64 (drop (c.args.at + 64) c.args.bytes.now) _ c.lead_ones-2.ensures in
    omega (arith, low.1, high.1)

pub returns : goal.returns
returns c =
    let behind = drop c.args.at c.args.bytes.now in
    let low = leads-total 64 behind _ c.lead_ones.ensures in
    let high = leads-total 64 (drop (c.args.at + 64) c.args.bytes.now) _ c.lead_ones-2.ensures in
    let both = ap (total_width one_lead) (take-add 64 64 behind)
    ∙ sum-append (total_width one_lead) _ refl (λ _ _. refl) (take 64 behind) (take 64 (drop 64 behind)) in
    omega (arith, c.sum_of_lanes.ensures, low.0, high.0, both, ap (λ bs. total_width one_lead (take 64 bs)) (drop-drop 64 c.args.at c.args.bytes.now))
