use Rattle.std.proofs.Common.{◌∙◌, ap, arith, bit_or, map, refl, replicate}
use Rattle.std.proofs.lemmas.{List.length-map, Simd.map-map, Simd.zip2_of_maps, Simd.zip2_splat, Simd.zip2_splat_left}
use Rattle.lane_ascii.specs.{Leads.is_lead, Marks.one_if}
use Rattle.lane_ascii.proofs.{FirstLines.below, Masks.at_most, Masks.each_byte, MarkLanes.ones-selected}
use Rattle.lane_ascii.proofs.leads.lead_ones.Goals as goal
use lib.Lanes.{sel_l, top}

pub returns : goal.returns
returns g c =
    let v = c.args.lanes in
    let n = g.row.N in
    let long = c.fits-lanes.0 in
    let lanes = zip2_of_maps bit_or _ _ v (zip2_splat below v n 128 long) (zip2_splat_left at_most 192 n v long) in
    ap (λ fs. sel_l fs (replicate n 1) (replicate n 0)) (ap (map (top 7)) lanes ∙ each_byte _ is_lead refl v c.fits-lanes.1)
    ∙ ones-selected (map is_lead v) n (omega (arith, length-map v is_lead, long))
    ∙ map-map one_if is_lead v
