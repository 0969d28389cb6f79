use Rattle.std.proofs.Common.{arith}
use Rattle.lane_ascii.proofs.FirstLines.{block_ends, block_full}
use Rattle.lane_ascii.proofs.first_line.end_in_64.Goals as goal

pub returns-then-may_end-clause-end : goal.returns-then-may_end-clause-end
returns-then-may_end-clause-end c = block_ends c.args.bytes.now c.args.at 64 _ _ c.requires.front c.requires.room
    (omega arith) c.ends_in.ensures c.lowest_set.ensures

pub returns-then-may_end-clause-none : goal.returns-then-may_end-clause-none
returns-then-may_end-clause-none c = block_full c.args.bytes.now c.args.at 64 _ _ c.requires.front c.requires.room
    (omega arith) c.ends_in.ensures c.lowest_set.ensures
