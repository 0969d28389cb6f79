use Rattle.std.proofs.Common.{sym, ◌∙◌}
use Rattle.lane_ascii.proofs.FirstLines.{high-lower}
use Rattle.lane_ascii.proofs.first_line.lower.Goals as goal

pub returns : goal.returns
returns c = high-lower c.args.first c.args.second (c.fits-first.0 ∙ sym c.fits-second.0)
