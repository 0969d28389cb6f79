use Rattle.std.proofs.Common.{◌≡◌, take}
use Rattle.streams.specs.Counting.{count_of}
use Rattle.streams.proofs.counts.count_of.Given as goal

abbrev pub invariant-bytes : goal.invariant-bytes
invariant-bytes l = l.count ≡ count_of l.byte (take l.found-index l.found-items)
