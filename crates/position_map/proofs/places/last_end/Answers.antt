use Rattle.position_map.proofs.{Words.arith, Words.sym, Words.◌∙◌, Words.bom_of, Chains.last_found, Chains.last_not_found, Chains.no_scalars}
use Rattle.position_map.proofs.places.last_end.Goals as goal

pub returns-then-count-eq0-clause-end : goal.returns-then-count-eq0-clause-end
returns-then-count-eq0-clause-end c = λ front back ps e h m. c.bom-bom.ensures ∙ sym (no_scalars front ps (bom_of c.args.parts.now) m (h ∙ c.if-count-eq0.true))

pub returns-in-None-clause-end : goal.returns-in-None-clause-end
returns-in-None-clause-end c =
    λ front back ps e h m. absurd (last_not_found c.args.parts.now _ _ _ c.in-None.is (omega arith) c.find.ensures.place front back e h)

pub returns-in-Some-clause-end : goal.returns-in-Some-clause-end
returns-in-Some-clause-end c = last_found c.law_chained.ensures c.args.parts.now _ _ _ c.in-Some.piece _ c.in-Some.is (omega arith) c.find.ensures.place
    c.last_in.ensures
