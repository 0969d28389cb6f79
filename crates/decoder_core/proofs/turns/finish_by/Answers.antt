use Rattle.std.proofs.Common.{◌≡◌, suc, length, ap, ◌∙◌, arith, length-append, append-nil}
use Rattle.decoder_core.proofs.{Prelude.cost, Prelude.bytes_of, Driving.turned, Driving.run_finished, Driving.pushed}
use Rattle.decoder_core.proofs.turns.finish_by.Goals as goal

pub turns-preserved-in-Nothing : goal.turns-preserved-in-Nothing
turns-preserved-in-Nothing g c =
    let turn = turned (g.met.H.Handler.ends c.args.handler.now) (g.met.H.Handler.counts c.args.handler.now) c.turns.reached (bytes_of c.turns.queue)
    c.split-byte.ensures.front c.split-byte.ensures.behind c.turn-next.ensures.state c.turn-next.ensures.answer c.turn-next.ensures.back
    c.before-queue.ensures (λ e. cc) in
    let items = rw c.in-Nothing.is at turn.runs in
    record {
      weight = omega (arith, turn.weight);
      room = omega (arith, turn.room);
      items = rw (← items) c.turns.invariant.items;
    }

pub turns-preserved : goal.turns-preserved
turns-preserved g c =
    let turn = turned (g.met.H.Handler.ends c.args.handler.now) (g.met.H.Handler.counts c.args.handler.now) c.turns.reached (bytes_of c.turns.queue)
    c.split-byte.ensures.front c.split-byte.ensures.behind c.turn-next.ensures.state c.turn-next.ensures.answer c.turn-next.ensures.back
    c.before-queue-in-Gives.ensures (λ e. cc) in
    let paid : cost c.turn-next.result.answer ≡ 1 = ap cost c.in-Gives.is in
    let longer : length c.push.new.self ≡ suc (length c.turns.items) = rw (c.push.ensures, length-append) (omega arith) in
    record {
      weight = omega (arith, turn.weight);
      room = omega (arith, turn.room, paid, longer);
      items = pushed c.turns.items _ _ _ c.push.ensures c.count.ensures c.in-Gives.is turn.runs ∙ c.turns.invariant.items;
    }

pub returns-in-Finished-clause-items : goal.returns-in-Finished-clause-items
returns-in-Finished-clause-items g c =
    let over = run_finished (g.met.H.Handler.ends c.args.handler.now) (g.met.H.Handler.counts c.args.handler.now) c.turns.reached (bytes_of c.turns.queue)
    c.split-byte.ensures.front c.turn-next.ensures.answer c.in-Finished.is in
    rw (over, append-nil) at c.turns.invariant.items
