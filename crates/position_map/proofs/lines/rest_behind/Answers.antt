use Rattle.position_map.proofs.{Words.chars, Words.chars-nil, NextLines.rest_some, NextLines.rest_none}
use Rattle.position_map.proofs.lines.rest_behind.Goals as goal

pub returns-in-Some : goal.returns-in-Some
returns-in-Some c = rest_some _ (chars c.in-Some.field-0-0.now) _ _ c.in-Some.ensures.cut

pub returns-in-None : goal.returns-in-None
returns-in-None c = rest_none _ _ _ chars-nil
