-- Units that stand for equally many bytes of UTF-8, and those bytes (Unicode, table 3-6).
use Rattle.std.specs.Prelude.{ℕ, ◌+◌, ◌/◌, ◌%◌, Bool, nat_lt, List, [], ◌∷◌, map}

-- a unit of one byte
abbrev pub is_one : ℕ → Bool
is_one u = nat_lt u 0x80

-- a trailing byte of the lowest six bits
abbrev pub trail_byte : ℕ → ℕ
trail_byte u = 0x80 + u % 0x40

-- the bytes that are written for units of any value: the forms of those that they stand for
abbrev pub one_forms : List ℕ → List ℕ
one_forms units = map (λ u. u % 0x80) units

abbrev pub three_forms : List ℕ → List ℕ
three_forms [] = []
three_forms (u ∷ us) = (0xE0 + u / 0x1000 % 0x10) ∷ trail_byte (u / 0x40) ∷ trail_byte u ∷ three_forms us
