use Rattle.std.proofs.Common.{Ok, ap}
use Rattle.serving.specs.declared.server.Server.{Server}
use Rattle.serving.proofs.Turns as turns
use Rattle.serving.proofs.server.Server.turn.Goals as goal

pub returns-in_ok-wait-in-Wait-clause-turned : goal.returns-in_ok-wait-in-Wait-clause-turned
returns-in_ok-wait-in-Wait-clause-turned g c = (
  c.round-busy.ensures.round.0,
  turns.turned c.round-busy.result c.in-Wait.most c.round-busy.ensures.round.0 c.args.self.now c.round-busy.new.self c.next.new.self c.wait.new.self
      c.args.sessions.now c.round-busy.new.sessions c.next.new.self.alone_since c.next.ensures.kept
      c.round-busy.ensures.round.1 c.round-busy.ensures.round.2 c.round-busy.ensures.rest
      (λ e. rw c.in-Wait.is at (c.in_ok-most.ensures.awake e)) (λ e. rw c.in-Wait.is at (c.in_ok-most.ensures.asleep e))
      c.in_ok-wait-in-Wait.ensures.waits c.in_ok-wait-in-Wait.ensures.noted c.wait.ensures.kept,
)

pub returns-in-End-clause-turned : goal.returns-in-End-clause-turned
returns-in-End-clause-turned g c = (
  c.round-busy.ensures.round.0,
  turns.turned_behind _ c.round-busy.ensures.round.0 _ c.round-busy.new.self _ _ _ c.next.new.self.alone_since (λ e. cc) c.next.ensures.kept
      c.round-busy.ensures.round.1,
)

pub returns-in-GiveUp-clause-turned : goal.returns-in-GiveUp-clause-turned
returns-in-GiveUp-clause-turned g c = (
  c.round-busy.ensures.round.0,
  turns.turned_behind _ c.round-busy.ensures.round.0 _ c.round-busy.new.self _ _ _ c.next.new.self.alone_since (λ e. cc) c.next.ensures.kept
      c.round-busy.ensures.round.1,
)

pub returns-in-End-clause-alone : goal.returns-in-End-clause-alone
returns-in-End-clause-alone g c on = turns.looked_before c.round-busy.result c.args.self.now c.round-busy.new.self c.next.new.self
    (λ e. rw c.in-End.is at (c.in_ok-most.ensures.awake e)) c.round-busy.ensures.since (ap (λ (s : Server). s.limits) c.next.ensures.kept)
    (c.in_ok-most.ensures.alone (ap Ok c.in-End.is))
