use Rattle.position_map.proofs.{Words.◌∙◌, Pointing.line_feed}
use Rattle.position_map.proofs.marks.line_feed_at.Goals as goal

pub returns-in-Some-clause-is : goal.returns-in-Some-clause-is
returns-in-Some-clause-is c = c.begins_lf.ensures ∙ line_feed _ _ _ _ _ _ c.locate.ensures.place c.in-Some.ensures.cut
