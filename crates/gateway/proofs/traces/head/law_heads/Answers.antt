use Rattle.gateway.proofs.{Heads.heads_go_on, Heads.lines_are_alike, Heads.obeys-append, Headless.headless}
use Rattle.gateway.proofs.traces.head.law_heads.Goals as goal

pub returns : goal.returns
returns c = record {
  lines = obeys-append;
  alike = lines_are_alike c.law_lines.ensures;
  on = heads_go_on c.law_lines.ensures;
  headless = headless c.law_lines.ensures;
}
