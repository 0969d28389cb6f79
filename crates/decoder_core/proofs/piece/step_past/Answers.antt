use Rattle.std.proofs.Common.{◌≡◌, ◌+◌, ◌-◌, take, drop, rules, arith, refl, sym, ap}
use Rattle.decoder_core.proofs.{Prelude.err_from_is_err_and, Prelude.Fed, Prelude.shown_from, Showing.none-shown}
use Rattle.decoder_core.proofs.Moving.{part-state, part-shown, rest-shown, prefix-after, prefix-front}
use Rattle.decoder_core.proofs.piece.step_past.Goals as goal

pub returns : goal.returns
returns g c =
    let ends = g.met.D.Decoder.ends c.args.decoder.now in
    let escape = c.requires.escape in
    let behind : 3 + c.min-behind.result - 3 ≡ c.min-behind.result = omega arith in
    let reached = sym (ap (λ (x : Fed _). x.state) escape.fed) in
    let none = none-shown ends c.args.read c.args._state (take 3 c.args.rest.now) (rw escape.fed) in
    let all = part-shown ends c.args._state c.args.escape.state c.args.rest.now 3 escape.within reached c.args.read _ refl c.min-behind.result in
    record {
      steps = search rules;
      moved = search rules;
      state = part-state ends c.args._state c.args.escape.state c.args.rest.now 3 escape.within reached c.min-behind.result _
          (rw behind at c.in_ok-after.ensures.state);
      items = rw (all, none) (rw behind at c.in_ok-after.ensures.items);
      err = search rules;
    }

pub returns-in_err-after-clause-err : goal.returns-in_err-after-clause-err
returns-in_err-after-clause-err g c =
    let ends = g.met.D.Decoder.ends c.args.decoder.now in
    let old = g.K.Sink.seen c.args.sink.now in
    let escape = c.requires.escape in
    let behind : 3 + c.min-behind.result - 3 ≡ c.min-behind.result = omega arith in
    let reached = sym (ap (λ (x : Fed _). x.state) escape.fed) in
    let none = none-shown ends c.args.read c.args._state (take 3 c.args.rest.now) (rw escape.fed) in
    let refused = err_from_is_err_and c.from_residual.result c.from_residual.ensures.1 in
    rw refused.1
    (prefix-after g.K.Sink.taken old old _ (shown_from (g.D.Decoder.table c.args.decoder.now) c.args.read c.args._state (take 3 c.args.rest.now)) _ _
    (rest-shown ends c.args._state c.args.escape.state c.args.rest.now 3 escape.within reached c.args.read _ refl)
    (rw none)
    (prefix-front ends g.K.Sink.taken old _ (c.args.read + 3) c.args.escape.state (drop 3 c.args.rest.now) c.min-behind.result
    (rw behind at c.in_err-after.ensures.err)))
