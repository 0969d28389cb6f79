use Rattle.std.proofs.Common.{◌-◌, length}
use Rattle.state_memo.proofs.{Prelude.vec_len, Prelude.vec_capacity, Prelude.items_under_way, Walking.IsWalked}
use Rattle.state_memo.proofs.items.OpenRuns.put_plain.Given as goal

abbrev pub invariant-items : goal.invariant-items
invariant-items l = IsWalked l.fn.stride l.kind l.fn.output l.fn.text l.fn.from (items_under_way l.fn.self.closed.items l.fn.self.last)
    (vec_capacity l.self.closed) l.at l.self.closed.items (vec_len l.self.closed) l.last l.more l.step

abbrev pub decreases-items : goal.decreases-items
decreases-items l = length l.bytes - l.at
