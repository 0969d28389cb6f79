use Rattle.std.proofs.Common.{◌<◌, ap, ◌∙◌, length, arith}
use Rattle.sessions.proofs.Prelude.{client_at, Hall}
use Rattle.sessions.proofs.Steps as steps
use Rattle.sessions.proofs.sessions.Sessions.join.Goals as goal

pub unreachable-requires : goal.unreachable-requires
unreachable-requires g c =
    let n = c.number-c.result in
    let free = steps.may_open (g.G.KeepsEvents.traffic c.self.inside.gateway) c.self.inside.slots n c.self.invariant c.number-c.ensures.small
    (ap (λ (h : Hall). client_at h n) c.self.view_is ∙ rw c.number-c.ensures.is c.requires) in
    absurd (steps.not_refused (Unit {0}) _ _ _ _ c.in-Err-Refused.field-0-is c.in-Err-Refused.ensures.fault free)

pub invariant_of-self : goal.invariant_of-self
invariant_of-self g c =
    let n = c.number-c.result in
    let small = c.number-c.ensures.small in
    let line : n < length (g.G.KeepsEvents.traffic c.self.inside.gateway).lines = omega (arith, small, c.event.ensures.count) in
    let place : n < length c.self.inside.slots = omega (arith, small, c.put.ensures.count) in
    steps.joins_match (g.G.KeepsEvents.traffic c.self.inside.gateway) c.self.inside.slots n c.self.invariant small line place c.session.result
    c.in-Ok.ensures.step.2 c.put.ensures.put

pub returns-clause-joined : goal.returns-clause-joined
returns-clause-joined g c =
    let n = c.number-c.result in
    let small = c.number-c.ensures.small in
    let line : n < length (g.G.KeepsEvents.traffic c.self.inside.gateway).lines = omega (arith, small, c.event.ensures.count) in
    let place : n < length c.self.inside.slots = omega (arith, small, c.put.ensures.count) in
    rw (← c.number-c.ensures.is, ← c.self.view_is)
    (steps.joins (g.G.KeepsEvents.traffic c.self.inside.gateway) c.self.inside.slots n c.self.invariant small line place c.session.result
    (ap (λ (h : Hall). client_at h n) c.self.view_is ∙ rw c.number-c.ensures.is c.requires) c.in-Ok.ensures.step.2 c.put.ensures.put c.session.ensures)
