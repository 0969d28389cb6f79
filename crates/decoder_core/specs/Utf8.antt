-- The UTF-8 decoder (Encoding Standard, "UTF-8 decoder").
use Rattle.std.specs.Prelude.{ℕ, ◌+◌, ◌-◌, ◌*◌, ◌==◌, List, [], ◌∷◌, Some, None, if◌then◌else◌}
use Rattle.decoder_core.specs.declared.item.Item.{Item, TheVariants.One, TheVariants.Error}
use Rattle.decoder_core.specs.{Queue.Turn, Queue.Table, Forms.gives, Forms.holds, Forms.finishes, Forms.is_ascii, Forms.within}

-- the Standard's five values: code point, bytes seen, bytes needed, lower boundary, upper boundary
pub record Utf8 : Type 0 where
  pub code_point : ℕ
  pub seen : ℕ
  pub needed : ℕ
  pub lower : ℕ
  pub upper : ℕ

abbrev pub utf8_start : Utf8
utf8_start = record { code_point = 0; seen = 0; needed = 0; lower = 0x80; upper = 0xBF }

-- a code point, or an error, with nothing pending
abbrev pub utf8_gives : Item → List ℕ → Turn Utf8
utf8_gives item back = gives utf8_start item back

-- a lead byte of a sequence of needed + 1 bytes
abbrev pub utf8_begins : ℕ → ℕ → ℕ → ℕ → Turn Utf8
utf8_begins code_point needed lower upper =
    holds (record { code_point = code_point; seen = 0; needed = needed; lower = lower; upper = upper })

-- a byte while no byte is needed
abbrev pub utf8_first : ℕ → Turn Utf8
utf8_first b =
    if is_ascii b then utf8_gives (One b) []
    else if within 0xC2 0xDF b then utf8_begins (b - 0xC0) 1 0x80 0xBF
    else if within 0xE0 0xEF b then utf8_begins (b - 0xE0) 2 (if b == 0xE0 then 0xA0 else 0x80) (if b == 0xED then 0x9F else 0xBF)
    else if within 0xF0 0xF4 b then utf8_begins (b - 0xF0) 3 (if b == 0xF0 then 0x90 else 0x80) (if b == 0xF4 then 0x8F else 0xBF)
    else utf8_gives Error []

-- a byte within its boundaries; code_point is the one with this byte's six bits after it
abbrev pub utf8_trail : Utf8 → ℕ → Turn Utf8
utf8_trail s code_point =
    if s.seen + 1 == s.needed then utf8_gives (One code_point) []
    else holds (record { code_point = code_point; seen = s.seen + 1; needed = s.needed; lower = 0x80; upper = 0xBF })

abbrev pub utf8 : Table Utf8
utf8 s None = if s.needed == 0 then finishes s else utf8_gives Error []
utf8 s (Some b) =
    if s.needed == 0 then utf8_first b
    else if within s.lower s.upper b then utf8_trail s (64 * s.code_point + (b - 0x80))
    else utf8_gives Error (b ∷ [])
