use Rattle.std.{proofs.Common.ap, specs.Simd.Lanes.put_chunk}
use Rattle.lane_utf.proofs.UnitRuns.{ones_put}
use Rattle.lane_utf.proofs.unit_runs.put_ones.Goals as goal

pub returns : goal.returns
returns g c = ap (put_chunk c.args.at c.args.bytes.now) (ones_put c.args.lanes c.part_of.result c.part_of.ensures)
