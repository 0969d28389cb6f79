use Rattle.std.proofs.Common.{◌≡◌}
use Rattle.desk.specs.Log.{all_leave, last_of}
use Rattle.desk.proofs.log.Log.last.Given as goal

abbrev pub invariant-edits : goal.invariant-edits
invariant-edits l = l.left ≡ all_leave l.bytes (last_of l.number l.self)
