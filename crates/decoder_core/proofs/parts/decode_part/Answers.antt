use Rattle.std.proofs.Common.{ℕ, ◌+◌, length, ap, ◌∙◌, arith}
use Rattle.decoder_core.proofs.{Prelude.further_on, Prelude.seen_of, Collecting.collect-part}
use Rattle.decoder_core.proofs.parts.decode_part.Goals as goal

pub overflow_add-collector : goal.overflow_add-collector
overflow_add-collector g c =
    let seen = collect-part (g.met.D.Decoder.ends c.args.decoder.now) c.args.state c.args.part.now (seen_of c.args.collector.now)
    (seen_of c.run_piece.new.sink) c.requires c.in_ok-after.ensures.items in
    omega (arith, seen.1, c.requires)

pub returns-clause-items : goal.returns-clause-items
returns-clause-items g c =
    let seen = collect-part (g.met.D.Decoder.ends c.args.decoder.now) c.args.state c.args.part.now (seen_of c.args.collector.now)
    (seen_of c.run_piece.new.sink) c.requires c.in_ok-after.ensures.items in
    ap (λ (k : ℕ). record { all = c.run_piece.new.sink.all.items; base = k + length c.args.part.now; from = c.run_piece.new.sink.from }) seen.1
    ∙ ap (further_on (c.args.collector.now.base + length c.args.part.now)) seen.0
