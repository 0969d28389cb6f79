use Rattle.connections.proofs.Cuts as cuts
use Rattle.connections.proofs.laws.law_lines.Goals as goal

pub returns : goal.returns
returns c = record {
  complete-append = cuts.complete-append;
  unfinished-append = cuts.unfinished-append;
  complete_without = cuts.complete_without;
  unfinished_without = cuts.unfinished_without;
  before_without = cuts.before_without;
  cut_at_end = cuts.cut_at_end;
  complete_at_end = cuts.complete_at_end;
  unfinished_at_end = cuts.unfinished_at_end;
  taken_at_end = cuts.taken_at_end;
}
