use Rattle.std.proofs.Common.{ℕ, ◌≤◌, length, not, refl, arith, bit_and, bit_or}
use Rattle.std.proofs.lemmas.Simd.{zip2_splat, zip2_splat_left, zip2_of_maps, splat_is_map}
use Rattle.lane_ascii.{specs.Runs.is_plain, proofs.Masks.at_most, proofs.Masks.equal, proofs.Masks.mask_of_class}
use Rattle.lane_ascii.proofs.class.not_plain.Goals as goal

pub returns : goal.returns
returns g c =
    let v = c.args.lanes in
    let n = g.row.N in
    let long = c.fits-lanes.0 in
    let few : length v ≤ 64 = omega (arith, long) in
    let high = zip2_splat_left at_most 128 n v long in
    let even = zip2_splat {Y = ℕ} bit_and v n 254 long in
    let shift = zip2_of_maps equal (λ b. bit_and b 254) (λ _. 14) v even (splat_is_map v n 14 long) in
    let escape = zip2_splat equal v n 27 long in
    mask_of_class _ (λ b. not (is_plain b)) v _ few c.fits-lanes.1 (zip2_of_maps bit_or _ _ v (zip2_of_maps bit_or _ _ v high shift) escape) refl
