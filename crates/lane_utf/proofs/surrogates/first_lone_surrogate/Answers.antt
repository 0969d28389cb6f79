use Rattle.std.proofs.{Common.◌∙◌, Common.ap, Common.sym, Common.drop, Common.arith, lemmas.Bool.Decides.nat_tests}
use Rattle.lane_utf.{specs.Scan.lone_from, proofs.Lone.front_of, proofs.UnitMasks.begins, proofs.UnitMasks.goes_on}
use Rattle.lane_utf.proofs.surrogates.first_lone_surrogate.Goals as goal

pub whole-init : goal.whole-init
whole-init c = begins c.args.units.now (grind (arith, nat_tests, c.if-is_empty.false, c.is_empty.ensures)) (sym c.is_trail.ensures ∙ c.if-is_trail.false)

pub whole-preserved : goal.whole-preserved
whole-preserved c = goes_on 32 c.whole.invariant (omega arith) (omega arith) (c.is_matched.ensures c.if-is_matched.true)

pub steps-preserved : goal.steps-preserved
steps-preserved c = goes_on 8 c.steps.invariant (omega arith) (omega arith) (c.is_matched-in-steps.ensures c.if-is_matched-2.true)

pub returns-clause-front : goal.returns-clause-front
returns-clause-front c =
    front_of c.args.units.now c.scan.result
    (c.scan.ensures ∙ ap (λ k. lone_from k c.steps.at (drop c.steps.at c.args.units.now)) c.is_lead.ensures ∙ c.steps.invariant.same)
