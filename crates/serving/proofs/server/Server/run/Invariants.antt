use Rattle.std.proofs.Common.{◌≡◌, List}
use Rattle.sessions.specs.Sessions.{Act, Hall}
use Rattle.serving.specs.{declared.server.Server.Server, Resting.Seated, Turns.Led, Turns.Turns, Turns.acts_of}
use Rattle.serving.proofs.server.Server.run.Given as goal

abbrev pub invariant-loop : goal.invariant-loop
invariant-loop g l = record {
  turns : (before : List (Server × Hall × List Act)) × Turns before l.initial.self l.initial.sessions l.self l.sessions
      × Led (acts_of before) l.initial.self l.self l.initial.sessions l.sessions;
  keeps : g.G.KeepsEvents.keeps_all → l.self.is_unkept ≡ l.initial.self.is_unkept;
  seated : Seated l.self.peers l.sessions;
}
