use Rattle.position_map.proofs.{Words.◌∙◌, Locating.located}
use Rattle.position_map.proofs.cuts.locate.Goals as goal

pub returns-clause-place : goal.returns-clause-place
returns-clause-place c =
    rw (c.as_str.ensures ∙ c.text.ensures)
    (located c.law_sums.ensures.joined _ _ _ _ _ c.find_or_tail.ensures.place c.find_or_tail.ensures.whole c.requires)
