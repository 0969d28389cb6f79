use Rattle.std.{proofs.Common.length, proofs.Common.drop, proofs.Common.◌-◌, proofs.Common.◌+◌, proofs.Common.◌≡◌, proofs.Common.◌≤◌, specs.List.prefix_len}
use Rattle.lane_ascii.proofs.runs.short_run.Given as goal

abbrev pub invariant-run : goal.invariant-run
invariant-run g l = (l.at ≤ length l.bytes) × (l.at + prefix_len g.C.Class.holds (drop l.at l.bytes) ≡ prefix_len g.C.Class.holds l.bytes)

abbrev pub decreases-run : goal.decreases-run
decreases-run g l = length l.bytes - l.at
