-- Bytes that begin a code point, and bytes within a line.
use Rattle.std.specs.Prelude.{◌≡◌, ℕ, ◌+◌, Bool, false, not, ◌&&◌, ◌||◌, ◌==◌, nat_lt, nat_le, List, [], ◌∷◌, if◌then◌else◌}
use Rattle.lane_ascii.specs.Marks.{cr, lf}

-- no trailing byte of UTF-8 (Unicode, table 3-7)
abbrev pub is_lead : ℕ → Bool
is_lead b = nat_lt b 0x80 || nat_le 0xC0 b

abbrev pub one_lead : ℕ → ℕ
one_lead b = if is_lead b then 1 else 0

-- how many there are
abbrev pub leads : List ℕ → ℕ
leads [] = 0
leads (b ∷ bs) = one_lead b + leads bs

-- neither CR nor LF
abbrev pub in_line : ℕ → Bool
in_line b = not (b == cr) && not (b == lf)

-- no byte above all control characters that are as low as CR and LF
abbrev pub is_low : ℕ → Bool
is_low b = nat_lt b 14

-- no byte is low
abbrev pub AreHigh : List ℕ → Type 0
AreHigh [] = Unit {0}
AreHigh (b ∷ bs) = (is_low b ≡ false) × AreHigh bs
