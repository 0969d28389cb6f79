use Rattle.std.proofs.Common.{◌≡◌, true, false}
use Rattle.serving.specs.{Resting.NoMore, Resting.RestBelow, Resting.Seated, Sockets.HadCauses, Turns.Stepped}
use Rattle.serving.proofs.server.Server.steps.Given as goal

abbrev pub invariant-loop-c : goal.invariant-loop-c
invariant-loop-c g l = record {
  steps : Stepped l.c (l.moved ≡ true) l.initial.self l.self l.initial.sessions l.sessions;
  rest : l.moved ≡ false → RestBelow l.c l.self.peers l.sessions;
  no_more : l.moved ≡ false → NoMore l.initial.self l.initial.sessions → NoMore l.self l.sessions;
  causes : HadCauses l.self l.initial.sessions l.sessions;
  seated : Seated l.self.peers l.sessions;
  limits : l.self.limits ≡ l.initial.self.limits;
  kept : l.self ≡ record l.initial.self { peers = l.self.peers; is_unkept = l.self.is_unkept; left = l.self.left };
  keeps : g.G.KeepsEvents.keeps_all → l.self.is_unkept ≡ l.initial.self.is_unkept;
  unkept : l.initial.self.is_unkept ≡ true → l.self.is_unkept ≡ true;
}
