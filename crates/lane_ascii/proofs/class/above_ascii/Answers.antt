use Rattle.std.proofs.{Common.◌≤◌, Common.length, Common.not, Common.refl, Common.arith, lemmas.Simd.zip2_splat_left}
use Rattle.lane_ascii.{specs.Runs.is_ascii, proofs.Masks.at_most, proofs.Masks.mask_of_class}
use Rattle.lane_ascii.proofs.class.above_ascii.Goals as goal

pub returns : goal.returns
returns g c =
    let v = c.args.lanes in
    let few : length v ≤ 64 = omega (arith, c.fits-lanes.0) in
    mask_of_class _ (λ b. not (is_ascii b)) v _ few c.fits-lanes.1 (zip2_splat_left at_most 128 g.row.N v c.fits-lanes.0) refl
