use Rattle.std.proofs.Common.{ℕ, ◌<◌, IsSome}
use Rattle.connections.specs.Events.{at_number}
use Rattle.sessions.proofs.sessions.Sessions.vacancy.Given as goal

abbrev pub invariant-loop-c : goal.invariant-loop-c
invariant-loop-c g l = (d : ℕ) → d < l.c → IsSome (at_number l.self-inside.slots d)
