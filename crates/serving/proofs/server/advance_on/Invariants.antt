use Rattle.std.{proofs.Common.◌≡◌, proofs.Common.◌≢◌, proofs.Common.ℕ, specs.Option.is_some}
use Rattle.sessions.specs.Sessions.{client_at}
use Rattle.serving.specs.Acting.{Carried}
use Rattle.serving.proofs.server.advance_on.Given as goal

abbrev pub invariant-loop : goal.invariant-loop
invariant-loop g l = record {
  carried : Carried l.c l.counter ⊥ l.initial.sessions l.sessions l.initial.peer l.peer;
  stays : is_some (client_at l.sessions l.c) ≡ is_some (client_at l.initial.sessions l.c);
  others : (d : ℕ) → d ≢ l.c → client_at l.sessions d ≡ client_at l.initial.sessions d;
}
