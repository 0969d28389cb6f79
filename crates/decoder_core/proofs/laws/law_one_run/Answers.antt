use Rattle.decoder_core.proofs.Running.{run_is, run_only, run-turn, feed-nil, feed-turn, run_feed, feed-append, done-feed, done-run}
use Rattle.decoder_core.proofs.Showing.{all-shown, shown-append}
use Rattle.decoder_core.proofs.laws.law_one_run.Goals as goal

pub returns : goal.returns
returns g c =
    let table = g.D.Decoder.table c.args._decoder.now in
    let ends = g.met.D.Decoder.ends c.args._decoder.now in
    record {
      exists = run_is ends;
      only = λ s q out runs. run_only ends runs;
      turn = run-turn ends;
      feed_empty = feed-nil ends;
      feed_turn = feed-turn ends;
      parts = run_feed ends;
      feed_parts = feed-append ends;
      shown = all-shown ends;
      shown_parts = shown-append ends;
      finished = λ s b q over. (done-feed ends s b over q, done-run ends s b over q);
      exact = g.met.D.Decoder.exact;
    }
