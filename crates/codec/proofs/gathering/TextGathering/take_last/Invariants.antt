use Rattle.std.proofs.Common.{◌≡◌, length, take, fold}
use Rattle.codec.specs.Gathering.{with_ended}
use Rattle.codec.proofs.gathering.TextGathering.take_last.Given as goal

abbrev pub invariant-items : goal.invariant-items
invariant-items l = l.self ≡ fold (with_ended (length l.bytes)) l.initial.self (take l.ended-index l.items)
