use Rattle.std.proofs.Common.{Some, rules, arith, refl, ◌≡◌, ◌<◌, length}
use Rattle.decoder_core.{proofs.Fronts.ascii-put, proofs.Fronts.byte-put, specs.declared.bulk.Stride.TheVariants.Bytes}
use Rattle.decoder_core.proofs.byte_bulk.put_byte.Goals as goal

pub returns-then-byte-lt128-clause-some : goal.returns-then-byte-lt128-clause-some
returns-then-byte-lt128-clause-some g c =
    let large : length c.args.text.now ≡ 1024 = search rules in
    let low : c.from.result < 0x80 = omega (arith, c.from.ensures, c.if-byte-lt128.true) in
    ascii-put (g.met.H.Handler.ends c.args.handler.now) c.args.state Bytes c.args.bytes.now c.args.text.now _ c.args.at
    c.args.written _ _ refl (c.requires.ascii _ low) c.requires.within c.from.ensures low c.requires.room large
    c.put_scalar.ensures.end c.put_scalar.ensures.bytes

pub returns-clause-some : goal.returns-clause-some
returns-clause-some g c =
    byte-put (g.met.H.Handler.ends c.args.handler.now) c.args.state c.args.bytes.now c.args.text.now _ c.args.at
    c.args.written c.known_byte-form.result c.requires.within c.known_byte-form.ensures c.put-2.result c.put-2.ensures.some

pub returns-in-Some-clause-some : goal.returns-in-Some-clause-some
returns-in-Some-clause-some g c =
    byte-put (g.met.H.Handler.ends c.args.handler.now) c.args.state c.args.bytes.now c.args.text.now _ c.args.at
    c.args.written c.form_of-form.result c.requires.within c.form_of-form.ensures.takes c.put.result c.put.ensures.some

-- what is put is the form of the byte, which is short
pub returns-then-short-clause-some : goal.returns-then-short-clause-some
returns-then-short-clause-some g c =
    byte-put (g.met.H.Handler.ends c.args.handler.now) c.args.state c.args.bytes.now c.args.text.now _ c.args.at
    c.args.written c.form_of-form.result c.requires.within c.form_of-form.ensures.takes (Some c.put_short.result) c.put_short.ensures.put
