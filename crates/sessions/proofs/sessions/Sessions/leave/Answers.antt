use Rattle.std.proofs.Common.{◌<◌, arith, length}
use Rattle.sessions.proofs.Steps as steps
use Rattle.sessions.proofs.sessions.Sessions.leave.Goals as goal

pub unreachable-requires : goal.unreachable-requires
unreachable-requires g c =
    let it = steps.found _ c.at.result c.self.inside.slots c.args.c c.at.ensures.session c.if-is_none.ensures c.at.ensures.count in
    let may = steps.may_close (g.G.KeepsEvents.traffic c.self.inside.gateway) c.self.inside.slots c.args.c c.self.invariant it.small it.here in
    absurd (steps.not_refused (Unit {0}) _ _ _ _ c.in-Err-Refused.field-0-is c.in-Err-Refused.ensures.fault may)

pub invariant_of-self : goal.invariant_of-self
invariant_of-self g c =
    let it = steps.found _ c.at.result c.self.inside.slots c.args.c c.at.ensures.session c.if-is_none.ensures c.at.ensures.count in
    let line : c.args.c < length (g.G.KeepsEvents.traffic c.self.inside.gateway).lines = omega (arith, it.small, c.event.ensures.count) in
    steps.leaves_match (g.G.KeepsEvents.traffic c.self.inside.gateway) c.self.inside.slots c.args.c c.self.invariant it.small line it.place
    c.in-Ok.ensures.step.2 c.put.ensures.put

pub returns-clause-left : goal.returns-clause-left
returns-clause-left g c _ =
    let it = steps.found _ c.at.result c.self.inside.slots c.args.c c.at.ensures.session c.if-is_none.ensures c.at.ensures.count in
    let line : c.args.c < length (g.G.KeepsEvents.traffic c.self.inside.gateway).lines = omega (arith, it.small, c.event.ensures.count) in
    rw (← c.self.view_is) (steps.leaves (g.G.KeepsEvents.traffic c.self.inside.gateway) c.self.inside.slots c.args.c c.self.invariant it.small line
    it.place it.here c.in-Ok.ensures.step.2 c.put.ensures.put)
