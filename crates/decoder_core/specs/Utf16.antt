-- The UTF-16BE and UTF-16LE decoders (Encoding Standard, "shared UTF-16 decoder").
use Rattle.std.specs.Prelude.{ℕ, ◌+◌, ◌-◌, ◌*◌, Bool, List, [], ◌∷◌, Option, Some, None, if◌then◌else◌}
use Rattle.decoder_core.specs.declared.item.Item.TheVariants.{One, Error}
use Rattle.decoder_core.specs.declared.utf16.ByteOrder.{ByteOrder, TheVariants.BigEndian, TheVariants.LittleEndian}
use Rattle.decoder_core.specs.{Queue.Turn, Queue.Table, Forms.gives, Forms.holds, Forms.finishes, Forms.within}

-- the Standard's two values, each of which can be null: the first byte of a unit, and a lead surrogate
pub record Utf16 : Type 0 where
  pub lead_byte : Option ℕ
  pub lead_surrogate : Option ℕ

abbrev pub utf16_start : Utf16
utf16_start = record { lead_byte = None; lead_surrogate = None }

-- a unit's value (Unicode, chapter 3, D96 and D97: UTF-16BE and UTF-16LE encoding schemes)
abbrev pub unit_of : ByteOrder → ℕ → ℕ → ℕ
unit_of BigEndian first second = first * 0x100 + second
unit_of LittleEndian first second = second * 0x100 + first

-- high-surrogate and low-surrogate code units (Unicode, chapter 3, D72 and D74)
abbrev pub is_lead_surrogate : ℕ → Bool
is_lead_surrogate unit = within 0xD800 0xDBFF unit

abbrev pub is_trail_surrogate : ℕ → Bool
is_trail_surrogate unit = within 0xDC00 0xDFFF unit

-- the code point of a surrogate pair (Unicode, chapter 3, D91)
abbrev pub pair_code_point : ℕ → ℕ → ℕ
pair_code_point lead trail = 0x10000 + (lead - 0xD800) * 0x400 + (trail - 0xDC00)

-- a unit with no lead surrogate held
abbrev pub utf16_single : ℕ → Turn Utf16
utf16_single unit =
    if is_lead_surrogate unit then holds (record { lead_byte = None; lead_surrogate = Some unit })
    else if is_trail_surrogate unit then gives utf16_start Error []
    else gives utf16_start (One unit) []

-- a unit after a lead surrogate; if it isn't a trail surrogate, its two bytes are put back
abbrev pub utf16_second : ℕ → ℕ → List ℕ → Turn Utf16
utf16_second lead unit bytes =
    if is_trail_surrogate unit then gives utf16_start (One (pair_code_point lead unit)) []
    else gives utf16_start Error bytes

abbrev pub utf16_unit : Option ℕ → ℕ → List ℕ → Turn Utf16
utf16_unit None unit bytes = utf16_single unit
utf16_unit (Some lead) unit bytes = utf16_second lead unit bytes

abbrev pub utf16_byte : ByteOrder → Option ℕ → Option ℕ → ℕ → Turn Utf16
utf16_byte order None surrogate b = holds (record { lead_byte = Some b; lead_surrogate = surrogate })
utf16_byte order (Some first) surrogate b = utf16_unit surrogate (unit_of order first b) (first ∷ b ∷ [])

-- the end: one error for all that is pending
abbrev pub utf16_end : Option ℕ → Option ℕ → Turn Utf16
utf16_end None None = finishes utf16_start
utf16_end None (Some lead) = gives utf16_start Error []
utf16_end (Some first) surrogate = gives utf16_start Error []

abbrev pub utf16 : ByteOrder → Table Utf16
utf16 order s None = utf16_end s.lead_byte s.lead_surrogate
utf16 order s (Some b) = utf16_byte order s.lead_byte s.lead_surrogate b

-- the units of some bytes; an odd last byte is in none
abbrev pub units_of : ByteOrder → List ℕ → List ℕ
units_of order (first ∷ second ∷ rest) = unit_of order first second ∷ units_of order rest
units_of order rest = []
