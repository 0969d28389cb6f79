use Rattle.std.proofs.Common.{ap, inr, refl, rules}
use Rattle.serving.specs.declared.{peer.Peer.Peer, server.TheConstants.STEPS}
use Rattle.serving.proofs.Sockets as sockets
use Rattle.serving.proofs.server.Server.step.Goals as goal

pub returns-in-Moved-clause-steps : goal.returns-in-Moved-clause-steps
returns-in-Moved-clause-steps g c = sockets.steps_there c.args.c _ _ _ _ _ _ _ _ _ c.requires.small c.in-Some.ensures.peer c.in-Some.ensures.rest
    c.put.ensures.count (c.put.ensures.put c.requires.small) refl (λ e. c.in-Moved.is) c.advance_on.ensures.carried

pub returns-else-is_err-clause-steps : goal.returns-else-is_err-clause-steps
returns-else-is_err-clause-steps g c = sockets.steps_there c.args.c _ _ _ _ _ _ _ _ _ c.requires.small c.in-Some.ensures.peer c.in-Some.ensures.rest
    c.put-in-Waits.ensures.count (c.put-in-Waits.ensures.put c.requires.small) refl (λ e. cc)
    (sockets.carried_as c.args.c STEPS _ _ _ _ _ _ (ap (λ (p : Peer). p.socket) c.watch_room.ensures.rest)
    c.advance_on.ensures.carried)

pub returns-then-is_err-clause-steps : goal.returns-then-is_err-clause-steps
returns-then-is_err-clause-steps g c = sockets.steps_away c.law_acts_in_a_row.ensures c.args.c _ _ _ _ _ _ _ _ _ c.requires.small c.requires.seated
    c.in-Some.ensures.peer c.in-Some.ensures.rest c.in-Some.ensures.count c.push.ensures c.advance_on.ensures.stays c.leave.ensures.left
    c.leave.ensures.gone
    (sockets.carried_as c.args.c STEPS _ _ _ _ _ _ (ap (λ (p : Peer). p.socket) c.watch_room.ensures.rest)
    c.advance_on.ensures.carried)

pub returns-in-Over-clause-steps : goal.returns-in-Over-clause-steps
returns-in-Over-clause-steps g c = sockets.steps_away c.law_acts_in_a_row.ensures c.args.c _ _ _ _ _ _ _ _ _ c.requires.small c.requires.seated
    c.in-Some.ensures.peer c.in-Some.ensures.rest c.in-Some.ensures.count c.push-in-Over.ensures c.advance_on.ensures.stays c.leave-in-Over.ensures.left
    c.leave-in-Over.ensures.gone c.advance_on.ensures.carried

pub returns-in-Unkept-clause-steps : goal.returns-in-Unkept-clause-steps
returns-in-Unkept-clause-steps g c = sockets.steps_away c.law_acts_in_a_row.ensures c.args.c _ _ _ _ _ _ _ _ _ c.requires.small c.requires.seated
    c.in-Some.ensures.peer c.in-Some.ensures.rest c.in-Some.ensures.count c.push-in-Unkept.ensures c.advance_on.ensures.stays c.leave-in-Unkept.ensures.left
    c.leave-in-Unkept.ensures.gone c.advance_on.ensures.carried

pub returns-then-is_err-clause-gone : goal.returns-then-is_err-clause-gone
returns-then-is_err-clause-gone g c was gone = sockets.over_now c.args.c c.push.new.self c.args.self.now.is_unkept _ _ c.push.ensures
    (search rules)

pub returns-then-is_err-clause-caused : goal.returns-then-is_err-clause-caused
returns-then-is_err-clause-caused g c d = sockets.caused_on c.args.c d c.push.new.self c.args.self.now.is_unkept _ _ c.push.ensures
    (search rules)

pub returns-in-Over-clause-gone : goal.returns-in-Over-clause-gone
returns-in-Over-clause-gone g c was gone = sockets.over_now c.args.c c.push-in-Over.new.self c.args.self.now.is_unkept _ _ c.push-in-Over.ensures
    (sockets.is_over c.args.c c.args.self.now.peers c.args.sessions.now _ _ c.requires.seated c.in-Some.ensures.peer
    (c.advance_on.ensures.over c.in-Over.is))

pub returns-in-Over-clause-caused : goal.returns-in-Over-clause-caused
returns-in-Over-clause-caused g c d = sockets.caused_on c.args.c d c.push-in-Over.new.self c.args.self.now.is_unkept _ _ c.push-in-Over.ensures
    (sockets.is_over c.args.c c.args.self.now.peers c.args.sessions.now _ _ c.requires.seated c.in-Some.ensures.peer
    (c.advance_on.ensures.over c.in-Over.is))

pub returns-in-Unkept-clause-caused : goal.returns-in-Unkept-clause-caused
returns-in-Unkept-clause-caused g c d before = inr refl
