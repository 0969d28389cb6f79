-- How many code units a code point takes (Unicode, chapter 3, D90 to D92), and the code points of a list.
use Rattle.std.specs.Prelude.{ℕ, ◌+◌, List, [], ◌∷◌, nat_lt, if◌then◌else◌}

-- the bytes of UTF-8 (Unicode, table 3-6)
abbrev pub utf8_width : ℕ → ℕ
utf8_width c = if nat_lt c 0x80 then 1 else (if nat_lt c 0x800 then 2 else (if nat_lt c 0x10000 then 3 else 4))

-- the units of UTF-16 (Unicode, table 3-5)
abbrev pub utf16_width : ℕ → ℕ
utf16_width c = if nat_lt c 0x10000 then 1 else 2

-- the units of UTF-32
abbrev pub utf32_width : ℕ → ℕ
utf32_width _ = 1

-- the bytes of an encoding of pairs: one for ASCII, and two for all else
abbrev pub pair_width : ℕ → ℕ
pair_width c = if nat_lt c 0x80 then 1 else 2

-- the units of all code points, by one of these
abbrev pub total_width : (ℕ → ℕ) → List ℕ → ℕ
total_width width [] = 0
total_width width (c ∷ cs) = width c + total_width width cs
