-- The form of a unit that isn't a surrogate, byte by byte (Unicode, table 3-6).
use Rattle.std.specs.Prelude.{◌≡◌, ℕ, ◌+◌, ◌/◌, nat_lt, false, List, [], ◌∷◌, ◌*◌, if◌then◌else◌}
use Rattle.lane_utf.specs.{UnitRuns.trail_byte, Utf16.is_lead, Widths.utf8_width}

-- each byte, where the form has it
abbrev pub first_byte : ℕ → ℕ
first_byte u = if nat_lt u 0x80 then u else (if nat_lt u 0x800 then 0xC0 + u / 0x40 else 0xE0 + u / 0x1000)

abbrev pub second_byte : ℕ → ℕ
second_byte u = if nat_lt u 0x800 then trail_byte u else trail_byte (u / 0x40)

abbrev pub third_byte : ℕ → ℕ
third_byte u = trail_byte u

-- what is stored of each unit: the bytes that its form may have, and one more
abbrev pub four_bytes : ℕ → List ℕ
four_bytes u = first_byte u ∷ second_byte u ∷ third_byte u ∷ 0 ∷ []

-- the number that has these bytes, the first one lowest
abbrev pub form_number : ℕ → ℕ
form_number u = first_byte u + second_byte u * 0x100 + third_byte u * 0x10000

-- four bytes and a number are those of a unit that leads no pair
pub record IsUnitForm (u : ℕ) (form : List ℕ) (count : ℕ) : Type 0 where
  pub plain : is_lead u ≡ false
  pub bytes : form ≡ four_bytes u
  pub width : count ≡ utf8_width u

-- of three lists, the lanes of one, by how many bytes a unit's form has
abbrev pub by_width : List ℕ → List ℕ → List ℕ → List ℕ → List ℕ
by_width (u ∷ us) (x ∷ xs) (y ∷ ys) (z ∷ zs) = (if nat_lt u 0x80 then x else (if nat_lt u 0x800 then y else z)) ∷ by_width us xs ys zs
by_width us xs ys zs = []
