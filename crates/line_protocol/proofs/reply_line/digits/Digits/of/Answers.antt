use Rattle.std.proofs.Common.{arith, decimal}
use Rattle.line_protocol.proofs.Decimals.{short, begun, ends-at, none-near}
use Rattle.line_protocol.proofs.reply_line.digits.Digits.of.Goals as goal
use Rattle.line_protocol.proofs.reply_line.digits.Digits.of.Goals.{then-number-lt1000, else-number-lt1000}

pub write_digits-begin-requires : goal.write_digits-begin-requires
write_digits-begin-requires c = (short c.args.number c.ranges.number.fits, omega arith)

pub returns : goal.returns
returns c = let put = c.write_digits-begin in ends-at (decimal c.args.number) put.new.buf _ put.result put.ensures.start put.ensures.written

pub invariant_of-result : goal.invariant_of-result
invariant_of-result c =
    let put = c.write_digits-begin in
    elim c.if-number-lt1000.branch [
      | then-number-lt1000 w ↦ rw w.base-is (none-near put.result put.new.buf (omega (arith, put.ensures.start)))
      | else-number-lt1000 w ↦
          rw w.base-is (begun c.args.number put.result put.new.buf w.if-number-lt1000.false c.ranges.number.fits put.ensures.start (returns c))
    ]
