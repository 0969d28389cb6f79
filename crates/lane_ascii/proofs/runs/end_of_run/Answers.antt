use Rattle.std.proofs.Common.{arith}
use Rattle.lane_ascii.proofs.Prefixes.{goes_on, last_block}
use Rattle.lane_ascii.proofs.runs.end_of_run.Goals as goal

pub returns-then-bytes-ge16 : goal.returns-then-bytes-ge16
returns-then-bytes-ge16 g c =
    last_block g.C.Class.holds c.args.bytes.now _ 16 _ c.args.seen c.requires.front (omega arith) (omega arith) c.run_in_16.ensures

pub returns-then-bytes-ge8 : goal.returns-then-bytes-ge8
returns-then-bytes-ge8 g c =
    let front = goes_on g.C.Class.holds c.args.bytes.now 0 8 _ (omega arith) c.run_in_8-run.ensures c.if-run-lt8.false in
    last_block g.C.Class.holds c.args.bytes.now _ 8 _ 8 front (omega arith) (omega arith) c.run_in_8.ensures
