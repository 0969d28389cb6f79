-- What became of a document since a revision.
use Rattle.std.specs.Prelude.{ℕ, ◌+◌, ◌-◌, nat_lt, nat_le, length, if◌then◌else◌, Option, Some, None, Result, Ok, Err}
use Rattle.enc_names.specs.declared.place.Place.{Place}
use Rattle.index_loader.specs.Files.{Files}
use Rattle.piece_rope.specs.Document.{Document, decoded, text_of}
use Rattle.position_map.specs.{Places.scalar_of_byte, Places.place_of, Positions.position_of}
use Rattle.position_map.specs.declared.{fault.PosFault.PosFault, position.Position.Position, position.Range.Range, unit.Unit.Unit as TextUnit}
use Rattle.desk.specs.{Documents.Entry, Documents.document_of, Documents.unless_position_fault, Log.all_leave, Log.last_of, Log.patch_of}
use Rattle.desk.specs.declared.fault.Fault.{Fault, TheVariants.OutOfRange, TheVariants.Forgotten}
use Rattle.desk.specs.declared.{ops.Reply.Reply, ops.Reply.TheVariants.Since, untouched.Patch.Patch}

-- the splice that the last n edits come to
abbrev pub patch_of_last : Entry → ℕ → Patch
patch_of_last h n = patch_of (length h.bytes) (all_leave (length h.bytes) (last_of n h.log))

-- The splice from a revision's bytes to those now. The revision may be no later than the one now, and the log has to have each edit since.
abbrev pub patch_since : Entry → ℕ → Result Patch Fault
patch_since h rev =
    if nat_lt h.revision rev then Err OutOfRange
    else (if nat_le (h.revision - rev) (length h.log)
    then Ok (patch_of_last h (h.revision - rev))
    else Err (Forgotten (h.revision - length h.log)))

-- ---- where the bytes are that came in

-- the code points before a byte, and those of the item that it is inside of
abbrev pub behind_item : Document → ℕ → ℕ → Option Place → Result ℕ PosFault
behind_item d at n None = Ok n
behind_item d at n (Some p) = if nat_lt p.from at then scalar_of_byte (length d.bytes) (decoded d).items p.to else Ok n

abbrev pub behind_byte : Document → ℕ → Result ℕ PosFault → Result ℕ PosFault
behind_byte d at (Ok n) = behind_item d at n (place_of (decoded d).items n)
behind_byte d at (Err fault) = Err fault

-- the code points before the first place between code points that isn't before a byte
abbrev pub scalar_behind : Document → ℕ → Result ℕ PosFault
scalar_behind d at = behind_byte d at (scalar_of_byte (length d.bytes) (decoded d).items at)

abbrev pub position_behind : Document → TextUnit → Result ℕ PosFault → Result Position PosFault
position_behind d unit (Ok n) = position_of (text_of d) unit n
position_behind d unit (Err fault) = Err fault

abbrev pub range_between : Result Position PosFault → Result Position PosFault → Result Range PosFault
range_between (Ok start) (Ok end) = Ok (record { start = start; end = end })
range_between (Err fault) end = Err fault
range_between (Ok start) (Err fault) = Err fault

-- from the last place between code points at or before the bytes to the first one at or after them
abbrev pub range_around : Document → TextUnit → Patch → Result Range PosFault
range_around d unit p =
    range_between (position_behind d unit (scalar_of_byte (length d.bytes) (decoded d).items p.at)) (position_behind d unit (scalar_behind d (p.at + p.ins)))

-- ---- the reply

abbrev pub since_with : ℕ → Patch → Option Range → Reply
since_with rev patch range = Since (record { patch = patch; range = range; rev = rev })

-- the splice, and where a unit is given its range too
abbrev pub with_range : Document → ℕ → Option TextUnit → Result Patch Fault → Result Reply Fault
with_range d rev unit (Err fault) = Err fault
with_range d rev None (Ok patch) = Ok (since_with rev patch None)
with_range d rev (Some unit) (Ok patch) = unless_position_fault (λ range. since_with rev patch (Some range)) (range_around d unit patch)

abbrev pub since_reply : Files → Entry → ℕ → Option TextUnit → Result Reply Fault
since_reply indexes h rev unit = with_range (document_of indexes h) h.revision unit (patch_since h rev)
