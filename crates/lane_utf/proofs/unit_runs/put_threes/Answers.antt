use Rattle.lane_utf.proofs.UnitRuns.{threes_put}
use Rattle.lane_utf.proofs.unit_runs.put_threes.Goals as goal

pub returns : goal.returns
returns c =
    threes_put c.args.lanes c.part_of-first.result c.part_of-second.result c.part_of-third.result c.args.bytes.now c.args.at c.fits-lanes.0
    c.part_of-first.ensures c.part_of-second.ensures c.part_of-third.ensures
