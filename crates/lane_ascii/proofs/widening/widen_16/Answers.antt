use Rattle.lane_ascii.proofs.Widens.{block_written}
use Rattle.lane_ascii.proofs.widening.widen_16.Goals as goal

pub returns : goal.returns
returns c = block_written c.args.bytes.now c.args.units.now c.args.at 16 c.requires.bytes c.requires.units
