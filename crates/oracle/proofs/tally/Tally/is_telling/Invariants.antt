use Rattle.std.proofs.Common.{ℕ, ◌<◌, ◌≤◌, slice_index}
use Rattle.oracle.proofs.tally.Tally.is_telling.Given as goal

abbrev pub invariant-loop-kind : goal.invariant-loop-kind
invariant-loop-kind g l = (k : ℕ) → k < l.kind → slice_index l.least k ≤ slice_index l.self.seen k
