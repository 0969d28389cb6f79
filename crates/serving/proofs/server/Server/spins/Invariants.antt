use Rattle.std.proofs.Common.{◌≡◌, ◌++◌}
use Rattle.sessions.specs.Sessions.{Hall}
use Rattle.serving.specs.{Noting.IsKept, Noting.NothingNew, Polls.at_once, Polls.waits_of, Resting.Seated}
use Rattle.serving.proofs.server.Server.spins.Given as goal

abbrev pub invariant-loop : goal.invariant-loop
invariant-loop l = record {
  polls : waits_of l.self.polls ≡ waits_of l.initial.self.polls ++ at_once l.counter;
  nothing : NothingNew l.initial.self l.self;
  kept : IsKept l.initial.self l.self;
  spin : l.self.spin ≡ l.initial.self.spin;
  seated : (h : Hall) → Seated l.initial.self.peers h → Seated l.self.peers h;
  limits : l.self.limits ≡ l.initial.self.limits;
}
