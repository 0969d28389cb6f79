use Rattle.decoder_core.proofs.Lifting.{run-lift, feed-lift}
use Rattle.decoder_core.proofs.laws.law_among.Goals as goal

pub returns : goal.returns
returns g c =
    let small = g.D.Decoder.table c.args._small.now in
    let big = g.E.Decoder.table c.args._big.now in
    record { runs = λ f same s q. run-lift f small big same s q; feeds = λ f same s q. feed-lift f small big same s q }
