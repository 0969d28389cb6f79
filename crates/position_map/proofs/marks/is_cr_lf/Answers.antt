use Rattle.position_map.proofs.{Words.◌∙◌, Words.sym, Pointing.open_line_feed}
use Rattle.position_map.proofs.marks.is_cr_lf.Goals as goal

pub returns-in-Open-clause-is : goal.returns-in-Open-clause-is
returns-in-Open-clause-is c = λ unit n h. open_line_feed _ _ n _ h _ (sym c.ending_of.ensures ∙ c.in-Open.is) c.line_feed_at.ensures.is
