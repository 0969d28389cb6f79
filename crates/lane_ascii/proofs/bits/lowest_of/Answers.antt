use Rattle.std.proofs.Common.{arith}
use Rattle.lane_ascii.proofs.FirstFlags.{first_flag}
use Rattle.lane_ascii.proofs.bits.lowest_of.Goals as goal

pub returns-then-at-lt64-clause-place : goal.returns-then-at-lt64-clause-place
returns-then-at-lt64-clause-place c flags few is some = (first_flag flags c.args.mask _ few is some c.lowest_set-at.ensures).0

pub returns-else-at-lt64-clause-place : goal.returns-else-at-lt64-clause-place
returns-else-at-lt64-clause-place c flags few is some =
    absurd (omega (arith, (first_flag flags c.args.mask _ few is some c.lowest_set-at.ensures).1, c.if-at-lt64.false))
