use Rattle.std.proofs.{Common.◌∙◌, Common.subst, Common.sym, Common.take, Common.drop, Common.eqb-true, lemmas.Bool.not-true}
use Rattle.lane_utf.{specs.Scan.Matched, proofs.UnitMasks.matched_at, proofs.UnitMasks.unpaired}
use Rattle.lane_utf.proofs.surrogates.is_matched.Goals as goal

pub returns-then-surrogates-eq0 : goal.returns-then-surrogates-eq0
returns-then-surrogates-eq0 g c e =
    subst (λ b. Matched b (take g.row.N (drop c.args.at c.args.units.now))) (sym (not-true c.is_lead.result e) ∙ c.is_lead.ensures)
    (unpaired (take g.row.N (drop c.args.at c.args.units.now)) (sym c.surrogates.ensures ∙ c.if-surrogates-eq0.true))

pub returns : goal.returns
returns g c e =
    matched_at c.args.units.now g.row.N c.args.at c.trails-here.result c.leads-before.result c.requires.before c.requires.within
    c.trails-here.ensures c.leads-before.ensures (eqb-true _ _ e)
