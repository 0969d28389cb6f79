use Rattle.std.proofs.Common.{rules, refl, arith, ◌≡◌, ◌+◌, ◌≤◌, ◌<◌, length}
use Rattle.decoder_core.specs.declared.bulk.Stride.TheVariants.{Pairs}
use Rattle.decoder_core.proofs.{Prelude.TakesByte, Prelude.lt-ltb, Fronts.ascii-put, Fronts.none-taken, Fronts.put-taken, Fronts.small-pair}
use Rattle.decoder_core.proofs.pair_bulk.take_with.Goals as goal

pub pairs-init : goal.pairs-init
pairs-init g c = none-taken (g.met.H.Handler.ends c.args.handler.now) c.args.state 2 Pairs c.args.bytes.now c.args.text.now

pub put_pair-requires : goal.put_pair-requires
put_pair-requires g c = record {
  within = omega (arith, c.pairs-test.true, c.min-most.ensures, c.saturating_sub-last.ensures);
  room = omega (arith, c.pairs.invariant.few, c.pairs-test.true, c.min-most.ensures, c.saturating_sub-last.ensures);
}

pub pairs-preserved : goal.pairs-preserved
pairs-preserved g c =
    put-taken (g.met.H.Handler.ends c.args.handler.now) c.args.state c.pairs.invariant small-pair c.in-Some-put_pair.ensures.some
    (omega (arith, c.pairs.invariant.few, c.pairs-test.true, c.min-most.ensures, c.saturating_sub-last.ensures))

pub pairs-preserved-then-is_own : goal.pairs-preserved-then-is_own
pairs-preserved-then-is_own g c =
    let ends = g.met.H.Handler.ends c.args.handler.now in
    let room : c.pairs.written + 4 ≤ 1024 = omega (arith, c.pairs.invariant.few, c.pairs-test.true, c.min-most.ensures, c.saturating_sub-last.ensures) in
    let large : length c.pairs.text ≡ 1024 = search rules in
    let inside : c.pairs.taken < length c.args.bytes.now = omega (arith, c.pairs-test.true, c.min-most.ensures, c.saturating_sub-last.ensures) in
    let turn : TakesByte (g.H.Handler.table c.args.handler.now) c.args.state c.from.result c.from.result =
    rw c.from.ensures (c.requires _ (c.if-is_own.ensures.of refl)) in
    let low : c.from.result < 0x80 = rw c.from.ensures (c.if-is_own.ensures.low refl) in
    put-taken ends c.args.state c.pairs.invariant small-pair
    (ascii-put ends c.args.state Pairs c.args.bytes.now c.pairs.text _ c.pairs.taken c.pairs.written c.from.result _
    (rw (lt-ltb c.from.result 0x80 low)) turn inside c.from.ensures low room large c.put_scalar-written.ensures.end
    c.put_scalar-written.ensures.bytes) room
