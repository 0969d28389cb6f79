use Rattle.std.proofs.Common.{ap, ◌∙◌}
use Rattle.lane_utf.{specs.Selected.place_index, proofs.TextSums.scalar_place_of}
use Rattle.lane_utf.proofs.places.nth_scalar.Goals as goal

pub returns : goal.returns
returns c =
    c.index.ensures ∙ ap place_index c.place.ensures
    ∙ scalar_place_of c.as_bytes.result.now c.args.text.now c.args.n c.utf8.text c.as_bytes.ensures.value
