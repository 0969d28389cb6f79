use Rattle.decoder_core.proofs.Lifting.{run-lift, feed-lift}
use Rattle.decoder_core.proofs.all_laws.law_all_among.Goals as goal

pub returns : goal.returns
returns g c = record {
  runs = λ small big f same s q. run-lift f (g.D.Decoder.table small) (g.E.Decoder.table big) same s q;
  feeds = λ small big f same s q. feed-lift f (g.D.Decoder.table small) (g.E.Decoder.table big) same s q;
}
