-- UTF-16 in a byte order, without a byte order mark (Unicode, chapter 3, D91 and D96 to D97).
use Rattle.std.specs.Prelude.{ℕ, ◌+◌, ◌-◌, ◌/◌, ◌%◌, nat_lt, List, [], ◌∷◌, ◌++◌, Option, Some, if◌then◌else◌}
use Rattle.decoder_core.specs.declared.utf16.ByteOrder.{ByteOrder, TheVariants.BigEndian, TheVariants.LittleEndian}
use Rattle.encoders.specs.Stateless.{two}

-- a code unit in its byte order
abbrev pub unit_bytes : ByteOrder → ℕ → List ℕ
unit_bytes BigEndian u = two (u / 0x100) (u % 0x100)
unit_bytes LittleEndian u = two (u % 0x100) (u / 0x100)

-- those of units, in a row
abbrev pub units_bytes : ByteOrder → List ℕ → List ℕ
units_bytes order [] = []
units_bytes order (u ∷ us) = unit_bytes order u ++ units_bytes order us

abbrev pub utf16_bytes : ByteOrder → ℕ → Option (List ℕ)
utf16_bytes order c =
    if nat_lt c 0x10000 then Some (unit_bytes order c)
    else Some (unit_bytes order (0xD800 + (c - 0x10000) / 0x400) ++ unit_bytes order (0xDC00 + (c - 0x10000) % 0x400))
