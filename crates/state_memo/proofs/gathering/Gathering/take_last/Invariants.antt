use Rattle.std.proofs.Common.{◌≡◌, take, fold}
use Rattle.state_memo.specs.Gathering.{with_ended}
use Rattle.state_memo.proofs.gathering.Gathering.take_last.Given as goal

abbrev pub invariant-items : goal.invariant-items
invariant-items l = l.self ≡ fold (with_ended l.output) l.initial.self (take l.ended-index l.items)
