use Rattle.std.proofs.{Common.arith, Common.refl, lemmas.Simd.zip2_splat}
use Rattle.lane_ascii.{specs.Leads.is_low, proofs.FirstLines.below, proofs.Masks.mask_of_class}
use Rattle.lane_ascii.proofs.first_line.low_in.Goals as goal

pub returns : goal.returns
returns g c =
    let long = c.fits-lanes.0 in
    mask_of_class _ is_low c.args.lanes _ (omega (arith, long, c.requires)) c.fits-lanes.1 (zip2_splat below c.args.lanes g.row.N 14 long) refl
