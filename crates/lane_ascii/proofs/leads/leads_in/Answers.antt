use Rattle.std.proofs.{Common.◌∙◌, Common.map, Common.sym, lemmas.List.length-map, lemmas.Simd.map-map}
use Rattle.lane_ascii.{specs.Leads.is_lead, specs.Marks.one_if, proofs.MarkLanes.mask_of_ones}
use Rattle.lane_ascii.proofs.leads.leads_in.Goals as goal

pub returns : goal.returns
returns g c =
    let v = c.args.lanes in
    mask_of_ones (map is_lead v) _ g.row.N (c.lead_ones.ensures ∙ sym (map-map one_if is_lead v)) (length-map v is_lead ∙ c.fits-lanes.0) c.requires
