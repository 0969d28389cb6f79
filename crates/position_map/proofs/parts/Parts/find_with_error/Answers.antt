use Rattle.position_map.proofs.Words.{subst, ap, Some, None, IsFoundBy, errors_in_sum, Pieced}
use Rattle.position_map.proofs.Finding.{found-some, found-none}
use Rattle.position_map.proofs.parts.Parts.find_with_error.Goals as goal

pub returns-in-Some-clause-place : goal.returns-in-Some-clause-place
returns-in-Some-clause-place c =
    subst (λ os. IsFoundBy errors_in_sum c.args.n os c.find.result.0 (Some c.here.result.now)) (ap (λ (p : Pieced). p.pieces) c.self.view_is)
    (found-some errors_in_sum _ _ _ _ c.in-Some.entered c.here.result c.in-Some.is c.here.ensures c.find.ensures.place)

pub returns-in-None-clause-place : goal.returns-in-None-clause-place
returns-in-None-clause-place c =
    subst (λ os. IsFoundBy errors_in_sum c.args.n os c.find.result.0 None) (ap (λ (p : Pieced). p.pieces) c.self.view_is)
    (found-none errors_in_sum _ _ _ _ c.in-None.is c.find.ensures.place)
