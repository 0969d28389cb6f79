use Rattle.std.proofs.Common.{[], ◌∷◌, refl, ap}
use Rattle.decoder_core.proofs.{Prelude.bytes_of, Driving.one_turn, Driving.fed_finished}
use Rattle.decoder_core.proofs.turns.simple_by.Goals as goal

pub returns-in-Nothing-Zero : goal.returns-in-Nothing-Zero
returns-in-Nothing-Zero g c =
    let step = one_turn (g.met.H.Handler.ends c.args.handler.now) (g.met.H.Handler.counts c.args.handler.now) c.args.state c.args.byte
    c.turn-next.ensures.state c.turn-next.ensures.answer c.turn-next.ensures.back (ap bytes_of c.in-Nothing-Zero.is-1) _ c.in-Nothing-Zero.is-0 (λ e. cc) in
    record { state = step.0; items = step.1 }

pub returns-in-Gives-Zero : goal.returns-in-Gives-Zero
returns-in-Gives-Zero g c =
    let step = one_turn (g.met.H.Handler.ends c.args.handler.now) (g.met.H.Handler.counts c.args.handler.now) c.args.state c.args.byte
    c.turn-next.ensures.state c.turn-next.ensures.answer c.turn-next.ensures.back (ap bytes_of c.in-Gives-Zero.is-1) _ c.in-Gives-Zero.is-0 (λ e. cc) in
    record { state = step.0; items = step.1 }

pub returns-in-Finished-default : goal.returns-in-Finished-default
returns-in-Finished-default g c =
    let over = fed_finished (g.met.H.Handler.ends c.args.handler.now) (g.met.H.Handler.counts c.args.handler.now) c.args.state (c.args.byte ∷ [])
    refl c.turn-next.ensures.state c.turn-next.ensures.answer c.in-Finished-default.is-0 in
    record { state = rw over; items = rw over }
