use Rattle.std.proofs.Common.{◌-◌, length}
use Rattle.lane_ascii.proofs.Counting.{IsCounted}
use Rattle.lane_ascii.proofs.line_ends.count_by.Given as goal

abbrev pub invariant-parts : goal.invariant-parts
invariant-parts g l = IsCounted l.after_cr l.bytes l.at l.count

abbrev pub decreases-parts : goal.decreases-parts
decreases-parts g l = length l.bytes - l.at

abbrev pub invariant-steps : goal.invariant-steps
invariant-steps g l = IsCounted l.after_cr l.bytes l.at l.count

abbrev pub decreases-steps : goal.decreases-steps
decreases-steps g l = length l.bytes - l.at
