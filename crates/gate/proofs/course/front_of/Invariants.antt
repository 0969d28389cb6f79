use Rattle.std.proofs.Common.{◌-◌, ◌≤◌}
use Rattle.gate.proofs.course.front_of.Given as goal

abbrev pub invariant-loop-count : goal.invariant-loop-count
invariant-loop-count l = l.count ≤ 512

abbrev pub decreases-loop-count : goal.decreases-loop-count
decreases-loop-count l = 512 - l.count
