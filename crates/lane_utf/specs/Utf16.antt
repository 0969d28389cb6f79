-- UTF-16 (Unicode, chapter 3, D71 to D75 and D91).
use Rattle.std.specs.Prelude.{ℕ, ◌+◌, ◌-◌, ◌*◌, ◌/◌, ◌%◌, Bool, false, not, ◌&&◌, ◌||◌, nat_le, nat_lt, List, [], ◌∷◌, ◌++◌, Option, Some, None, if◌then◌else◌}
use Rattle.std.specs.Option.{option_map}

-- high-surrogate code units (D72), which lead a pair, and low-surrogate code units (D74), which trail one
abbrev pub is_lead : ℕ → Bool
is_lead unit = nat_le 0xD800 unit && nat_lt unit 0xDC00

abbrev pub is_trail : ℕ → Bool
is_trail unit = nat_le 0xDC00 unit && nat_lt unit 0xE000

-- one of both
abbrev pub is_surrogate : ℕ → Bool
is_surrogate unit = is_lead unit || is_trail unit

-- the units of a code point (D91, table 3-5), and those of a list, in a row
abbrev pub utf16_form : ℕ → List ℕ
utf16_form c = if nat_lt c 0x10000 then c ∷ []
    else (0xD800 + (c - 0x10000) / 0x400) ∷ (0xDC00 + (c - 0x10000) % 0x400) ∷ []

abbrev pub utf16_forms : List ℕ → List ℕ
utf16_forms [] = []
utf16_forms (c ∷ cs) = utf16_form c ++ utf16_forms cs

-- the code point of a pair
abbrev pub pair_code_point : ℕ → ℕ → ℕ
pair_code_point lead trail = 0x10000 + (lead - 0xD800) * 0x400 + (trail - 0xDC00)

-- the code points that units without a lone surrogate are the form of
abbrev pub code_points : List ℕ → List ℕ
code_points [] = []
code_points (u ∷ []) = u ∷ []
code_points (u ∷ v ∷ us) =
    if is_lead u && is_trail v then pair_code_point u v ∷ code_points us else u ∷ code_points (v ∷ us)

-- A unit is a lone surrogate if it is a lead without a trail after it, or a trail without a lead before it. The flag
-- says whether a lead precedes the unit; the list is what follows it.
abbrev pub begins_with_trail : List ℕ → Bool
begins_with_trail [] = false
begins_with_trail (u ∷ us) = is_trail u

abbrev pub is_lone : Bool → ℕ → List ℕ → Bool
is_lone after_lead u us = (is_lead u && not (begins_with_trail us)) || (is_trail u && not after_lead)

-- the index of the first lone surrogate of all
abbrev pub first_lone_after : Bool → List ℕ → Option ℕ
first_lone_after after_lead [] = None
first_lone_after after_lead (u ∷ us) =
    if is_lone after_lead u us then Some 0 else option_map (λ i. i + 1) (first_lone_after (is_lead u) us)

abbrev pub first_lone : List ℕ → Option ℕ
first_lone units = first_lone_after false units
