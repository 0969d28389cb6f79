use Rattle.std.proofs.Common.{◌-◌, length}
use Rattle.lane_ascii.proofs.FirstLines.{IsWalked}
use Rattle.lane_ascii.proofs.first_line.line_front_by_16.Given as goal

abbrev pub invariant-steps : goal.invariant-steps
invariant-steps l = IsWalked l.bytes l.at l.leads

abbrev pub decreases-steps : goal.decreases-steps
decreases-steps l = length l.bytes - l.at

abbrev pub invariant-bytes : goal.invariant-bytes
invariant-bytes l = IsWalked l.bytes l.at l.leads

abbrev pub decreases-bytes : goal.decreases-bytes
decreases-bytes l = length l.bytes - l.at
