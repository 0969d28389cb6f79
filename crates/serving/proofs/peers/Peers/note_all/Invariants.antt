use Rattle.std.{proofs.Common.◌≡◌, proofs.Common.ℕ, specs.Option.is_some, specs.Slice.Iter.iter_rest}
use Rattle.mio.specs.Events.{items}
use Rattle.serving.specs.{Noting.noted_all, Resting.peer_at}
use Rattle.serving.proofs.peers.Peers.note_all.Given as goal

abbrev pub invariant-loop-event : goal.invariant-loop-event
invariant-loop-event l = record {
  seats : (c : ℕ) → is_some (peer_at l.self c) ≡ is_some (peer_at l.initial.self c);
  noted : (c : ℕ) → noted_all c (iter_rest l.event-iterator) (peer_at l.self c) ≡ noted_all c (items l.events) (peer_at l.initial.self c);
}
