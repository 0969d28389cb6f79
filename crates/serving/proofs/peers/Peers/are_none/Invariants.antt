use Rattle.std.proofs.Common.{◌≡◌, ◌<◌, ℕ, None}
use Rattle.serving.specs.Resting.{peer_at}
use Rattle.serving.proofs.peers.Peers.are_none.Given as goal

abbrev pub invariant-loop-c : goal.invariant-loop-c
invariant-loop-c l = (d : ℕ) → d < l.c → peer_at l.self d ≡ None
