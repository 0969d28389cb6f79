use Rattle.std.proofs.Common.{◌≡◌, ◌+◌, ◌≤◌, length, take}
use Rattle.streams.proofs.Numbers.{column_in}
use Rattle.streams.proofs.counts.column_after.Given as goal

abbrev pub invariant-back : goal.invariant-back
invariant-back l = (l.at + l.count ≤ length l.bytes) × (column_in l.fn.column l.bytes ≡ column_in l.fn.column (take l.at l.bytes) + l.count)

abbrev pub decreases-back : goal.decreases-back
decreases-back l = l.at
