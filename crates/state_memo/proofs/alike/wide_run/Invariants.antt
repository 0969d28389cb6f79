use Rattle.std.proofs.Common.{◌-◌, ◌*◌, ◌≡◌, ◌≤◌, length}
use Rattle.state_memo.specs.Alike.{AreAlike}
use Rattle.state_memo.proofs.alike.wide_run.Given as goal

abbrev pub invariant-windows : goal.invariant-windows
invariant-windows l = (l.at ≡ l.count * l.len) × (l.at ≤ length l.bytes) × AreAlike l.bytes 0 l.len l.count

abbrev pub decreases-windows : goal.decreases-windows
decreases-windows l = length l.bytes - l.at
