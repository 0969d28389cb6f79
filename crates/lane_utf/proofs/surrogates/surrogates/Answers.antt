use Rattle.std.proofs.{Common.arith, Common.lit<, lemmas.Bool.Decides.nat_tests}
use Rattle.std.proofs.lemmas.Simd.{shifts_fit_splat, zip2_splat, zip2_of_maps, splat_is_map}
use Rattle.lane_utf.{specs.Utf16.is_surrogate, proofs.Measures.mask_of_lanes, proofs.UnitMasks.shifted, proofs.UnitMasks.same_lane}
use Rattle.lane_utf.proofs.surrogates.surrogates.Goals as goal

pub overflow_shr-highest : goal.overflow_shr-highest
overflow_shr-highest g c = shifts_fit_splat 16 c.args.lanes g.row.N 11 (lit< tt)

pub returns : goal.returns
returns g c =
    let v = c.args.lanes in
    let n = g.row.N in
    let long = c.fits-lanes.0 in
    mask_of_lanes 15 _ is_surrogate v n long (omega arith)
    (zip2_of_maps same_lane _ _ v (zip2_splat shifted v n 11 long) (splat_is_map v n 27 long)) (λ u. grind (arith, nat_tests))
