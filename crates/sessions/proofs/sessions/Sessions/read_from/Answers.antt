use Rattle.std.proofs.Common.{◌≡◌, ◌++◌, Some, sym, ap, ◌∙◌, slice_set, take, append-nil}
use Rattle.sessions.proofs.Steps as steps
use Rattle.sessions.proofs.sessions.Sessions.read_from.Goals as goal

pub returns-clause-step : goal.returns-clause-step
returns-clause-step g c =
    let was = sym c.in-Some.ensures.session in
    let fresh = steps.found_is c.self.view_is was c.requires in
    let bytes = take c.in-Ok-Bytes.count c.read.new.buf in
    let received : g.W.Wire.received c.read.new.self ≡ g.W.Wire.received c.args.wire.now ++ bytes =
    rw c.in-Ok-Bytes.field-0-is at c.in-Ok-Bytes.ensures.received in
    let some = steps.found_some c.in-Ok-Bytes.count c.read.new.buf (rw c.in-Ok-Bytes.field-0-is at c.in-Ok-Bytes.ensures.some)
    (rw c.in-Ok-Bytes.field-0-is at c.in-Ok-Bytes.ensures.bound) in
    rw (← c.self.view_is) (steps.advance_sends _ c.args.c _ _ (g.W.Wire.received c.args.wire.now) (g.W.Wire.received c.read.new.self)
    (g.W.Wire.sent c.args.wire.now) (g.W.Wire.sent c.read.new.self) bytes (λ _. some) (
    steps.sends (g.G.KeepsEvents.traffic c.self.inside.gateway) c.self.inside.slots c.args.c c.receive.new.self was
    (c.put.ensures.put ∙ ap (λ l. slice_set l c.args.c (Some c.receive.new.self)) c.in-Some.ensures.rest) bytes c.receive.ensures.few fresh
    c.receive.ensures.input c.receive.ensures.unsent
    ) received c.in-Ok-Bytes.ensures.sent)

pub returns-in-Ok-NotYet-clause-step : goal.returns-in-Ok-NotYet-clause-step
returns-in-Ok-NotYet-clause-step g c =
    steps.advance_none _ c.args.c _ _ _ _ _ _ (λ e. cc) c.self.view_is (rw c.in-Ok-NotYet.field-0-is at c.in-Ok-NotYet.ensures.received)
    (c.in-Ok-NotYet.ensures.sent ∙ sym (append-nil _))

pub returns-in-Ok-End-clause-step : goal.returns-in-Ok-End-clause-step
returns-in-Ok-End-clause-step g c =
    steps.advance_none _ c.args.c _ _ _ _ _ _ (λ e. cc) c.self.view_is (rw c.in-Ok-End.field-0-is at c.in-Ok-End.ensures.received)
    (c.in-Ok-End.ensures.sent ∙ sym (append-nil _))
