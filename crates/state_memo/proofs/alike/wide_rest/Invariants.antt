use Rattle.std.proofs.Common.{◌-◌, ◌*◌, ◌≡◌, length}
use Rattle.state_memo.specs.Alike.{AreAlike}
use Rattle.state_memo.proofs.alike.wide_rest.Given as goal

abbrev pub invariant-alike : goal.invariant-alike
invariant-alike l = (l.at ≡ l.count * l.len) × AreAlike l.bytes 0 l.len l.count

abbrev pub decreases-alike : goal.decreases-alike
decreases-alike l = length l.bytes - l.at
