use Rattle.std.proofs.Common.{◌-◌, length}
use Rattle.lane_ascii.proofs.FirstLines.{IsWalked}
use Rattle.lane_ascii.proofs.first_line.line_front.Given as goal

abbrev pub invariant-parts : goal.invariant-parts
invariant-parts l = IsWalked l.bytes l.at l.leads

abbrev pub decreases-parts : goal.decreases-parts
decreases-parts l = length l.bytes - l.at
