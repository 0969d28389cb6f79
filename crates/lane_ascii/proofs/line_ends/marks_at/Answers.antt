use Rattle.lane_ascii.proofs.MarkLanes.{block_ones}
use Rattle.lane_ascii.proofs.line_ends.marks_at.Goals as goal

pub returns : goal.returns
returns g c after_cr = block_ones after_cr c.args.bytes.now c.args.at g.row.N c.requires.some c.requires.room
