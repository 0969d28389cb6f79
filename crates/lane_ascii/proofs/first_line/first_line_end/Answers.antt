use Rattle.std.proofs.Common.{arith}
use Rattle.lane_ascii.proofs.FirstLines.{first_mark, no_mark}
use Rattle.lane_ascii.proofs.first_line.first_line_end.Goals as goal

pub returns-then-front-bytes : goal.returns-then-front-bytes
returns-then-front-bytes c =
    let at = c.line_front-front.ensures.at in
    (rw at (first_mark c.args.bytes.now (omega (arith, at, c.if-front-bytes.true))), c.line_front-front.ensures.leads)

pub returns-else-front-bytes : goal.returns-else-front-bytes
returns-else-front-bytes c = omega (arith, no_mark c.args.bytes.now (omega (arith, c.line_front-front.ensures.at, c.if-front-bytes.false)))
