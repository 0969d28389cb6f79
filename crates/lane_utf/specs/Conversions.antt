-- What the conversions answer and write.
use Rattle.std.specs.Prelude.{ℕ, List, ◌++◌, length, drop, nat_le, Option, Some, None, Result, Ok, Err, if◌then◌else◌}
use Rattle.lane_ascii.specs.declared.room.NeedsRoom.{NeedsRoom}
use Rattle.lane_utf.specs.declared.faults.ToUtf8Fault.{ToUtf8Fault, TheVariants.LoneSurrogate, TheVariants.NeedsRoom as needs_room}
use Rattle.lane_utf.specs.{Utf16.first_lone, Utf16.code_points, Widths.utf8_width, Widths.total_width}

-- the elements of old after new was written over its front
abbrev pub over_front : List ℕ → List ℕ → List ℕ
over_front new old = new ++ drop (length new) old

-- the answer for a text that takes `needed` units, with room for `room`
abbrev pub utf16_answer : ℕ → ℕ → Result ℕ NeedsRoom
utf16_answer needed room = if nat_le needed room then Ok needed else Err (record { 0 = needed })

abbrev pub utf8_answer_of : Option ℕ → ℕ → ℕ → Result ℕ ToUtf8Fault
utf8_answer_of (Some at) needed room = Err (LoneSurrogate at)
utf8_answer_of None needed room = if nat_le needed room then Ok needed else Err (needs_room needed)

-- the answer for these units, with room for `room` bytes
abbrev pub utf8_answer : List ℕ → ℕ → Result ℕ ToUtf8Fault
utf8_answer units room = utf8_answer_of (first_lone units) (total_width utf8_width (code_points units)) room
