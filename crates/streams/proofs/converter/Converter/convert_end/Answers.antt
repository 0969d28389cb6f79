use Rattle.std.proofs.Common.{false, refl, sym, ap, subst, ◌∙◌, is_some}
use Rattle.streams.specs.Conversions.{Converting}
use Rattle.streams.specs.declared.conversion.PartFault.TheVariants as fault
use Rattle.streams.proofs.Continuing.{RunsParts, error-last, fails-last, last-put}
use Rattle.streams.proofs.converter.Converter.convert_end.Goals as goal

pub returns-in-Err-clause-err : goal.returns-in-Err-clause-err
returns-in-Err-clause-err g c =
    let runs = subst (λ (x : Converting). RunsParts x.job.decoder) c.self.view_is c.law_one_run.ensures.parts in
    λ began read h. fails-last c.law_parts.ensures.join c.args.self.now runs began _ read h false _ fault.OutOfMemory refl

pub returns-in-None-clause-ok : goal.returns-in-None-clause-ok
returns-in-None-clause-ok g c =
    let runs = subst (λ (x : Converting). RunsParts x.job.decoder) c.self.view_is c.law_one_run.ensures.parts in
    λ began read h.
    (last-put c.law_parts.ensures.join c.args.self.now runs began _ read h _ _ c.put_decoded.result
    (sym c.in-Ok.ensures.stop ∙ ap is_some c.in-None.is) (rw (c.deref.ensures, c.in-Ok.ensures.text) at c.put_decoded.ensures)).0

pub returns-in-None-clause-err : goal.returns-in-None-clause-err
returns-in-None-clause-err g c =
    let runs = subst (λ (x : Converting). RunsParts x.job.decoder) c.self.view_is c.law_one_run.ensures.parts in
    λ began read h.
    (last-put c.law_parts.ensures.join c.args.self.now runs began _ read h _ _ c.put_decoded.result
    (sym c.in-Ok.ensures.stop ∙ ap is_some c.in-None.is) (rw (c.deref.ensures, c.in-Ok.ensures.text) at c.put_decoded.ensures)).1

pub returns-in-Ok-put_decoded-clause-err : goal.returns-in-Ok-put_decoded-clause-err
returns-in-Ok-put_decoded-clause-err g c =
    let runs = subst (λ (x : Converting). RunsParts x.job.decoder) c.self.view_is c.law_one_run.ensures.parts in
    λ began read h.
    let e = rw (c.deref-in-Some.ensures, c.in-Ok.ensures.text) at c.in-Ok-put_decoded.ensures in
    error-last c.law_parts.ensures.join c.args.self.now runs began _ read h _ e.0
    (sym c.in-Ok.ensures.stop ∙ ap is_some c.in-Some.is) e.1 e.3

pub returns-clause-err : goal.returns-clause-err
returns-clause-err g c =
    let runs = subst (λ (x : Converting). RunsParts x.job.decoder) c.self.view_is c.law_one_run.ensures.parts in
    λ began read h. fails-last c.law_parts.ensures.join c.args.self.now runs began _ read h _ _ c.in-Err-put_decoded.fault
    (rw (c.deref-in-Some.ensures, c.in-Ok.ensures.text) at c.in-Err-put_decoded.ensures)
