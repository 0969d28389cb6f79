use Rattle.std.proofs.Common.{arith}
use Rattle.lane_ascii.proofs.Prefixes.{run_of_block}
use Rattle.lane_ascii.proofs.runs.run_in_8.Goals as goal

pub returns : goal.returns
returns g c = run_of_block g.C.Class.holds c.args.bytes.now c.args.at 8 _ _ c.requires (omega arith) c.others_of_8.ensures c.lowest_set.ensures
