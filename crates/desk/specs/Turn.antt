-- The count of turns: how many opens, edits and closes were accepted.
use Rattle.std.specs.Prelude.{◌^◌, ◌-◌, ◌+◌, ℕ, nat_lt, Bool, true, false, if◌then◌else◌}
use Rattle.desk.specs.declared.ops.Reply.{Reply, TheVariants.Edited, TheVariants.Change, TheVariants.Changes, TheVariants.Closed}

-- the reply accepts an open, an edit or a close
abbrev pub reports_change : Reply → Bool
reports_change (Edited r) = true
reports_change (Change r) = true
reports_change (Changes r) = true
reports_change (Closed rev) = true
reports_change reply = false

-- the greatest count, after which it begins again
abbrev pub last_turn : ℕ
last_turn = 2 ^ 53 - 1

abbrev pub next_turn : ℕ → ℕ
next_turn turn = if nat_lt turn last_turn then turn + 1 else 0

-- the count after a reply
abbrev pub turn_after : ℕ → Reply → ℕ
turn_after turn reply = if reports_change reply then next_turn turn else turn
