use Rattle.std.proofs.Common.{arith, bit_or, refl}
use Rattle.std.proofs.lemmas.Simd.{zip2_of_maps, zip2_splat}
use Rattle.json.specs.Run.{is_stop}
use Rattle.line_protocol.proofs.PlainRuns.{hit, below, masked}
use Rattle.line_protocol.proofs.request.flat.plain.stops.Goals as goal

pub returns : goal.returns
returns c =
    let v = c.args.lanes in
    let long = c.fits-lanes.0 in
    masked _ is_stop v _ (omega arith) c.fits-lanes.1
    (zip2_of_maps bit_or _ _ v (zip2_of_maps bit_or _ _ v (zip2_splat hit v 32 34 long) (zip2_splat hit v 32 92 long)) (zip2_splat below v 32 32 long)) refl
