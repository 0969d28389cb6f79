use Rattle.std.proofs.{Common.arith, Common.bit_or, Common.not, Common.refl, lemmas.Simd.zip2_of_maps, lemmas.Simd.zip2_splat}
use Rattle.lane_ascii.{specs.Leads.in_line, proofs.Masks.equal, proofs.Masks.mask_of_class}
use Rattle.lane_ascii.proofs.first_line.ends_in.Goals as goal

pub returns : goal.returns
returns g c =
    let v = c.args.lanes in
    let n = g.row.N in
    let long = c.fits-lanes.0 in
    mask_of_class _ (λ b. not (in_line b)) v _ (omega (arith, long, c.requires)) c.fits-lanes.1
    (zip2_of_maps bit_or _ _ v (zip2_splat equal v n 13 long) (zip2_splat equal v n 10 long)) refl
