-- An offset in each unit, and the place of the code point there.
use Rattle.std.specs.Prelude.{ℕ, length, take, Result}
use Rattle.index_loader.specs.Files.{Files}
use Rattle.piece_rope.specs.Document.{Document, decoded, text_of}
use Rattle.position_map.specs.{Places.scalar_of_byte, Places.place_of, Positions.converted, Widths.width}
use Rattle.position_map.specs.declared.{fault.PosFault.PosFault, unit.Unit.TheVariants.Utf8, unit.Unit.TheVariants.Utf16, unit.Unit.TheVariants.Utf32}
use Rattle.desk.specs.Documents.{Entry, document_of, unless_position_fault}
use Rattle.desk.specs.declared.{fault.Fault.Fault, place_unit.PlaceUnit.PlaceUnit}
use Rattle.desk.specs.declared.{place_unit.PlaceUnit.TheVariants.Byte, place_unit.PlaceUnit.TheVariants.Text, ops.Reply.Reply, ops.Reply.TheVariants.Place}

-- How many code points precede the offset that a value names: those of the items that end at or before this byte, or those that take
-- that many units.
abbrev pub offset_named : Document → PlaceUnit → ℕ → Result ℕ PosFault
offset_named d Byte value = scalar_of_byte (length d.bytes) (decoded d).items value
offset_named d (Text unit) value = converted (text_of d) unit Utf32 value

-- the offset after n code points
abbrev pub place_at : Document → ℕ → ℕ → Reply
place_at d rev n =
    let front = take n (text_of d) in
    Place (record { rev = rev; place = place_of (decoded d).items n; utf8 = width Utf8 front; utf16 = width Utf16 front; utf32 = width Utf32 front })

abbrev pub place_reply : Files → Entry → PlaceUnit → ℕ → Result Reply Fault
place_reply indexes h unit value =
    let d = document_of indexes h in
    unless_position_fault (place_at d h.revision) (offset_named d unit value)
