use Rattle.std.{proofs.Common.ap, proofs.Common.◌∙◌, proofs.Common.arith, specs.Int.RustNames.count_ones}
use Rattle.lane_utf.{specs.Weights.has_two, specs.Weights.has_three, proofs.Measures.ones_counted, proofs.UnitMasks.weights}
use Rattle.lane_utf.proofs.utf8_length.weight_of.Goals as goal

pub returns : goal.returns
returns c =
    let v = c.args.lanes in
    let two = ap count_ones c.second_bytes.ensures ∙ ones_counted has_two v in
    let three = ap count_ones c.third_bytes.ensures ∙ ones_counted has_three v in
    omega (arith, weights v, two, three, c.requires)
