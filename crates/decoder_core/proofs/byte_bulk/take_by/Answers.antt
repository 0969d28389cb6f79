use Rattle.std.proofs.Common.{arith}
use Rattle.decoder_core.{specs.declared.bulk.Stride.TheVariants.Bytes, proofs.Fronts.none-taken, proofs.Fronts.put-taken, proofs.Fronts.small-byte}
use Rattle.decoder_core.proofs.byte_bulk.take_by.Goals as goal

pub bytes-init : goal.bytes-init
bytes-init g c = none-taken (g.met.H.Handler.ends c.args.handler.now) c.args.state 4 Bytes c.args.bytes.now c.args.text.now

pub put_byte-requires : goal.put_byte-requires
put_byte-requires g c = record {
  ascii = c.requires.ascii;
  forms = c.requires.forms;
  short = c.requires.short;
  within = omega (arith, c.bytes-test.true, c.min-end.ensures);
  room = omega (arith, c.bytes.invariant.few, c.bytes-test.true, c.min-end.ensures);
}

pub bytes-preserved : goal.bytes-preserved
bytes-preserved g c =
    put-taken (g.met.H.Handler.ends c.args.handler.now) c.args.state c.bytes.invariant small-byte c.in-Some.ensures.some
    (omega (arith, c.bytes.invariant.few, c.bytes-test.true, c.min-end.ensures))
