use Rattle.std.proofs.Common.{◌≡◌, suc, length, sym, ap, ◌∙◌, arith, length-append}
use Rattle.decoder_core.proofs.{Prelude.cost, Prelude.bytes_of, Driving.fed_on, Driving.fed_finished, Driving.fed_empty, Driving.pushed, Driving.nothing_more}
use Rattle.decoder_core.proofs.turns.turns_over.Goals as goal

pub turns-preserved-in-Nothing : goal.turns-preserved-in-Nothing
turns-preserved-in-Nothing g c =
    let fed = fed_on (g.met.H.Handler.ends c.args.handler.now) (g.met.H.Handler.counts c.args.handler.now) c.turns.state (bytes_of c.turns.queue)
    (sym c.in-Some.is ∙ c.split-read.ensures.front) c.split-read.ensures.behind c.turn-next.ensures.state c.turn-next.ensures.answer
    c.turn-next.ensures.back c.before-queue.ensures (λ e. cc) in
    let items = rw c.in-Nothing.is at fed.items in
    record {
      weight = omega (arith, fed.turn.weight);
      room = omega (arith, fed.turn.room);
      state = sym fed.state ∙ c.turns.invariant.state;
      items = rw (← items) c.turns.invariant.items;
    }

pub turns-preserved : goal.turns-preserved
turns-preserved g c =
    let fed = fed_on (g.met.H.Handler.ends c.args.handler.now) (g.met.H.Handler.counts c.args.handler.now) c.turns.state (bytes_of c.turns.queue)
    (sym c.in-Some.is ∙ c.split-read.ensures.front) c.split-read.ensures.behind c.turn-next.ensures.state c.turn-next.ensures.answer
    c.turn-next.ensures.back c.before-queue-in-Gives.ensures (λ e. cc) in
    let paid : cost c.turn-next.result.answer ≡ 1 = ap cost c.in-Gives.is in
    let longer : length c.push.new.self ≡ suc (length c.turns.items) = rw (c.push.ensures, length-append) (omega arith) in
    record {
      weight = omega (arith, fed.turn.weight);
      room = omega (arith, fed.turn.room, paid, longer);
      state = sym fed.state ∙ c.turns.invariant.state;
      items = pushed c.turns.items _ _ _ c.push.ensures c.count.ensures c.in-Gives.is fed.items ∙ c.turns.invariant.items;
    }

pub returns-in-Finished : goal.returns-in-Finished
returns-in-Finished g c =
    let over = fed_finished (g.met.H.Handler.ends c.args.handler.now) (g.met.H.Handler.counts c.args.handler.now) c.turns.state (bytes_of c.turns.queue)
    (sym c.in-Some.is ∙ c.split-read.ensures.front) c.turn-next.ensures.state c.turn-next.ensures.answer c.in-Finished.is in
    record { state = rw over at c.turns.invariant.state; items = nothing_more c.turns.items _ _ over ∙ c.turns.invariant.items }

pub returns-in_default : goal.returns-in_default
returns-in_default g c =
    let over = fed_empty (g.met.H.Handler.ends c.args.handler.now) (g.met.H.Handler.counts c.args.handler.now) c.turns.state (bytes_of c.turns.queue)
    c.split-read.ensures.front c.in_default.is in
    record { state = rw over at c.turns.invariant.state; items = nothing_more c.turns.items _ _ over ∙ c.turns.invariant.items }
