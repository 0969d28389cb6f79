use Rattle.std.proofs.Common.{arith, bit_and, bit_or, nat_le, nat_lt}
use Rattle.std.proofs.lemmas.{Bool.cases_Bool, Simd.zip2_splat, Simd.zip2_splat_left, Simd.zip2_of_maps}
use Rattle.lane_utf.{specs.Weights.has_three, proofs.Measures.mask_of_lanes, proofs.UnitMasks.at_most, proofs.UnitMasks.below}
use Rattle.lane_utf.proofs.utf8_length.third_bytes.Goals as goal

pub returns : goal.returns
returns g c =
    let v = c.args.lanes in
    let n = g.row.N in
    let long = c.fits-lanes.0 in
    let low = zip2_of_maps bit_and _ _ v (zip2_splat_left at_most 2048 n v long) (zip2_splat below v n 55296 long) in
    mask_of_lanes 15 _ has_three v n long (omega arith) (zip2_of_maps bit_or _ _ v low (zip2_splat_left at_most 57344 n v long))
    (λ u. grind (arith, cases_Bool (nat_le 2048 u), cases_Bool (nat_lt u 55296), cases_Bool (nat_le 57344 u)))
