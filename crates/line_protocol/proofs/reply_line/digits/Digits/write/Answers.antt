use Rattle.std.proofs.Common.{◌≡◌, ◌+◌, ◌-◌, decimal, arith, ap, ◌∙◌}
use Rattle.line_protocol.proofs.Decimals.{short, same-front, written-low}
use Rattle.line_protocol.proofs.reply_line.digits.Digits.write.Goals as goal

pub write_digits-requires : goal.write_digits-requires
write_digits-requires c = (short (c.args.number - c.self.inside.base) (omega (arith, c.if-low-lt10000.true)), omega (arith, c.self.told))

pub invariant_of-self : goal.invariant_of-self
invariant_of-self c =
    let held = c.self.inside in
    let put = c.write_digits in
    same-front held.base held.begin put.result (c.args.number - held.base) held.text put.new.buf c.if-low-ge1000.true c.if-low-lt10000.true
    put.ensures.start c.self.invariant put.ensures.before

pub returns-then-low-lt10000 : goal.returns-then-low-lt10000
returns-then-low-lt10000 c =
    let held = c.self.inside in
    let put = c.write_digits in
    let sum : held.base + (c.args.number - held.base) ≡ c.args.number = omega (arith, c.if-number-self.true) in
    written-low held.base held.begin put.result (c.args.number - held.base) put.new.buf _ c.if-low-ge1000.true c.if-low-lt10000.true
    (omega (arith, sum, c.ranges.number.fits)) put.ensures.start (omega (arith, put.auto.buf, c.self.told)) (invariant_of-self c) put.ensures.written
    ∙ ap decimal sum
