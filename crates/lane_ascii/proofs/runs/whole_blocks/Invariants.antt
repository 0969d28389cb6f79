use Rattle.std.{proofs.Common.length, proofs.Common.◌-◌, proofs.Common.◌≤◌, specs.List.prefix_len}
use Rattle.lane_ascii.proofs.runs.whole_blocks.Given as goal

abbrev pub invariant-whole : goal.invariant-whole
invariant-whole g l = l.at ≤ prefix_len g.C.Class.holds l.bytes

abbrev pub decreases-whole : goal.decreases-whole
decreases-whole g l = length l.bytes - l.at
