use Rattle.position_map.proofs.{Words.refl, Words.arith, Words.◌∙◌, ItemCutting.cut_found}
use Rattle.position_map.proofs.places.cut_before.Goals as goal

pub returns-clause-cut : goal.returns-clause-cut
returns-clause-cut c =
    c.cut_behind.ensures ∙ cut_found c.args.parts.now c.args.n _ _ _ c.find_or_tail.ensures.place c.find_or_tail.ensures.whole refl
    (omega (arith, c.if-n-eq0.false)) c.requires
