use Rattle.decoder_core.proofs.Running.{run-turn, feed-nil, feed-turn, feed-append}
use Rattle.decoder_core.proofs.all_laws.law_all_runs.Goals as goal

pub returns : goal.returns
returns g c = record {
  turn = λ decoder. run-turn (g.met.D.Decoder.ends decoder);
  feed_empty = λ decoder. feed-nil (g.met.D.Decoder.ends decoder);
  feed_turn = λ decoder. feed-turn (g.met.D.Decoder.ends decoder);
  feed_parts = λ decoder. feed-append (g.met.D.Decoder.ends decoder);
}
