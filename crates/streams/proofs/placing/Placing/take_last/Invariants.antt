use Rattle.std.proofs.Common.{◌≡◌, take, fold}
use Rattle.streams.specs.Finding.{with_ended}
use Rattle.streams.proofs.placing.Placing.take_last.Given as goal

abbrev pub invariant-items : goal.invariant-items
invariant-items l = l.self ≡ fold (with_ended 0) l.initial.self (take l.ended-index l.items)
