use Rattle.std.{proofs.Common.length, proofs.Common.◌-◌, proofs.Common.◌≤◌, specs.List.prefix_len}
use Rattle.lane_ascii.proofs.runs.rest_of_run.Given as goal

abbrev pub invariant-steps : goal.invariant-steps
invariant-steps g l = l.at ≤ prefix_len g.C.Class.holds l.bytes

abbrev pub decreases-steps : goal.decreases-steps
decreases-steps g l = length l.bytes - l.at
