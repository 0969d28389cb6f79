use Rattle.state_memo.proofs.CodePoints.{bytes-even, ones-even, pairs-even, units-even}
use Rattle.state_memo.proofs.plain.even_width.Goals as goal

pub returns-in-Utf8 : goal.returns-in-Utf8
returns-in-Utf8 c cs count width = ones-even c.args.stride c.args.count c.args.width cs count width c.if-width-count.true

pub returns-in-Utf16 : goal.returns-in-Utf16
returns-in-Utf16 c cs count width = units-even c.args.stride c.args.count c.args.width cs c.in-Utf16.is count width (c.is_twice-twice.ensures c.if-twice.true)

pub returns-in-Pairs : goal.returns-in-Pairs
returns-in-Pairs c cs count width = ones-even c.args.stride c.args.count c.args.width cs count width c.if-width-count-2.true

pub returns-in-Pairs-2 : goal.returns-in-Pairs-2
returns-in-Pairs-2 c cs count width = pairs-even c.args.stride c.args.count c.args.width cs c.in-Pairs-2.is count width
    (c.is_twice-twice.ensures c.if-twice-2.true)

pub returns-in-Bytes : goal.returns-in-Bytes
returns-in-Bytes c cs count width = bytes-even c.args.stride cs c.in-Bytes.is
