use Rattle.std.{proofs.Common.sym, proofs.Common.ap, proofs.Common.◌∙◌, specs.Slice.Iter.iter_rest}
use Rattle.serving.specs.{Noting.noted_all, Resting.peer_at}
use Rattle.serving.proofs.peers.Peers.note_all.Goals as goal

pub loop-event-preserved : goal.loop-event-preserved
loop-event-preserved c = record {
  seats = λ d. c.note.ensures.seats d ∙ c.loop-event.invariant.seats d;
  noted = λ d. ap (noted_all d (iter_rest c.next.new.self)) (c.note.ensures.noted d)
      ∙ ap (λ es. noted_all d es (peer_at c.loop-event.self d)) (sym c.in-Some.ensures.steps) ∙ c.loop-event.invariant.noted d;
}
