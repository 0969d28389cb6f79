use Rattle.std.proofs.Common.{refl, sym, ap, ◌∙◌, is_some}
use Rattle.streams.specs.Conversions.{Converting}
use Rattle.streams.specs.declared.conversion.PartFault.TheVariants as fault
use Rattle.streams.proofs.Continuing.{error-more, fails-more, holds-more, same-converting}
use Rattle.streams.proofs.converter.Converter.convert_part.Goals as goal

pub returns-in-Err-clause-err : goal.returns-in-Err-clause-err
returns-in-Err-clause-err g c =
    rw (← c.self.view_is)
    (λ began read h. fails-more c.law_parts.ensures.join _ c.law_one_run.ensures.feed_parts began _ read c.args.bytes.now h _ fault.OutOfMemory refl)

pub returns-in-Err-put_decoded-clause-err : goal.returns-in-Err-put_decoded-clause-err
returns-in-Err-put_decoded-clause-err g c =
    rw (← c.self.view_is)
    (λ began read h. fails-more c.law_parts.ensures.join _ c.law_one_run.ensures.feed_parts began _ read c.args.bytes.now h _
    c.in-Err-put_decoded.fault (rw (c.deref.ensures, c.in-Ok.ensures.text) at c.in-Err-put_decoded.ensures))

pub returns-in-Some-clause-err : goal.returns-in-Some-clause-err
returns-in-Some-clause-err g c =
    rw (← c.self.view_is)
    (λ began read h.
    let e = rw (c.deref.ensures, c.in-Ok.ensures.text) at c.in-Ok-put_decoded.ensures in
    error-more c.law_parts.ensures.join _ c.law_one_run.ensures.feed_parts began _ read c.args.bytes.now h _ e.0
    (sym c.in-Ok.ensures.stop ∙ ap is_some c.in-Some.is) e.1 e.3)

pub returns-clause-ok : goal.returns-clause-ok
returns-clause-ok g c =
    rw (← c.self.view_is)
    (λ began read h.
    let e = rw (c.deref.ensures, c.in-Ok.ensures.text) at c.in-Ok-put_decoded.ensures in
    let same = c.self-2.view_is ∙ e.2 in
    holds-more c.law_parts.ensures.join _ c.law_one_run.ensures.feed_parts began _ read c.args.bytes.now h _ e.0 _
    (sym c.in-Ok.ensures.stop ∙ ap is_some c.in_default.is) e.1 e.3
    (same-converting _ _ _ _ _ _ (ap (λ (x : Converting). x.job) same) c.in-Ok.ensures.state (ap (λ (x : Converting). x.out) same)))
