use Rattle.std.proofs.Common.{Some, sym, ap, ◌∙◌, slice_set}
use Rattle.sessions.proofs.Prelude.{Client}
use Rattle.sessions.proofs.Steps as steps
use Rattle.sessions.proofs.sessions.Sessions.ask.Goals as goal

pub returns-clause-asks : goal.returns-clause-asks
returns-clause-asks g c = λ _.
    let was = sym c.in-Some.ensures.session in
    let settled = ap (λ (a : Client). a.unsent) (steps.found_is c.self.view_is was c.requires.1) in
    rw (← c.self.view_is) (steps.asked c.self.inside.slots c.take-in-Ok.new.self c.self.invariant c.requires.1.small was
    (rw c.input.ensures at c.in-Ok.ensures.step)
    (c.put-2.ensures.put ∙ ap (λ l. slice_set l c.args.c (Some c.take-in-Ok.new.self)) c.in-Some.ensures.rest)
    settled c.take-in-Ok.ensures.input c.take-in-Ok.ensures.unsent)

pub invariant_of-self-2 : goal.invariant_of-self-2
invariant_of-self-2 g c =
    steps.asked_match c.self.inside.slots c.take-in-Ok.new.self c.self.invariant c.requires.1.small (sym c.in-Some.ensures.session)
    (rw c.input.ensures at c.in-Ok.ensures.step)
    (c.put-2.ensures.put ∙ ap (λ l. slice_set l c.args.c (Some c.take-in-Ok.new.self)) c.in-Some.ensures.rest)

pub returns-in-Err-Unkept-clause-unkept : goal.returns-in-Err-Unkept-clause-unkept
returns-in-Err-Unkept-clause-unkept g c = λ _.
    steps.put_back c.self.inside.slots c.args.c c.in-Err-Unkept.ensures.refused c.in-Some.ensures.session
    (c.put.ensures.put ∙ ap (λ l. slice_set l c.args.c (Some c.in-Some.session)) c.in-Some.ensures.rest) ∙ c.self.view_is

pub invariant_of-self : goal.invariant_of-self
invariant_of-self g c =
    steps.back_match c.self.inside.slots c.args.c c.in-Err-Unkept.ensures.refused c.in-Some.ensures.session
    (c.put.ensures.put ∙ ap (λ l. slice_set l c.args.c (Some c.in-Some.session)) c.in-Some.ensures.rest) c.self.invariant

pub take-requires-in-Ok : goal.take-requires-in-Ok
take-requires-in-Ok g c = rw (← c.input.ensures) (c.law_events.ensures.within _ _ _ _ _ _ c.in-Ok.ensures.step)

pub unreachable-requires-in-Err-Refused : goal.unreachable-requires-in-Err-Refused
unreachable-requires-in-Err-Refused g c =
    absurd (steps.not_refused (Unit {0}) _ _ _ _ c.in-Err-Refused.field-0-is c.in-Err-Refused.ensures.fault
    (steps.may_bring (g.G.KeepsEvents.traffic c.self.inside.gateway) c.self.inside.slots c.args.c c.input.result.now c.in-Some.session
    c.self.invariant c.requires.1.small (sym c.in-Some.ensures.session)))
