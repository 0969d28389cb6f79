use Rattle.position_map.proofs.Words.{subst, ap, Some, None, measure, IsFoundOutcome, Pieced}
use Rattle.position_map.proofs.Finding.{found-some, found-none, found-short}
use Rattle.position_map.proofs.parts.Parts.find.Goals as goal

pub returns-in-Some-clause-place : goal.returns-in-Some-clause-place
returns-in-Some-clause-place c =
    subst (λ os. IsFoundOutcome c.args.axis c.args.target os c.find.result.0 (Some c.here.result.now)) (ap (λ (p : Pieced). p.pieces) c.self.view_is)
    (found-some _ _ _ _ _ c.in-Some.entered c.here.result c.in-Some.is c.here.ensures c.find.ensures.place)

pub returns-in-None-clause-place : goal.returns-in-None-clause-place
returns-in-None-clause-place c =
    subst (λ os. IsFoundOutcome c.args.axis c.args.target os c.find.result.0 None) (ap (λ (p : Pieced). p.pieces) c.self.view_is)
    (found-none _ _ _ _ _ c.in-None.is c.find.ensures.place)

pub returns-in-Some-clause-small : goal.returns-in-Some-clause-small
returns-in-Some-clause-small c =
    found-short _ _ _ _ _ _ _ c.self.invariant.0
    (found-some (measure c.args.axis) c.args.target _ _ _ c.in-Some.entered c.here.result c.in-Some.is c.here.ensures c.find.ensures.place)
