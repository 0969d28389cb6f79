use Rattle.codec.proofs.Windows.{window, window_to_end}
use Rattle.codec.proofs.changes.law_one_window.Goals as goal

pub returns : goal.returns
returns g c = record {
  agreed = window (g.D.Decoder.table c.args._decoder.now) c.law_one_run.ensures.parts;
  to_end = window_to_end (g.D.Decoder.table c.args._decoder.now) c.law_one_run.ensures.parts;
}
