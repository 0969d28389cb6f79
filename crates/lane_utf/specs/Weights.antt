-- How a byte or a unit counts, so that the sums over a text are those over its code points.
use Rattle.std.specs.Prelude.{◌≡◌, ℕ, ◌+◌, ◌-◌, ◌<◌, ◌≤◌, Bool, false, ◌&&◌, ◌||◌, ◌==◌, nat_lt, nat_le, List, [], ◌∷◌, slice_index_or, if◌then◌else◌}
use Rattle.std.proofs.{Common.arith, lemmas.Bool.Decides.nat_tests}
use Rattle.lane_ascii.specs.Leads.{is_lead, one_lead}
use Rattle.lane_utf.specs.{Selected.moved, declared.select.Select.Select}
use Rattle.lane_utf.specs.declared.select.Select.TheVariants.{At, Inside, Past}

-- a byte that begins a code point of four bytes
abbrev pub begins_four : ℕ → Bool
begins_four b = nat_le 0xF0 b

-- none of the bytes from one index to another does
abbrev pub AreBelowFour : List ℕ → ℕ → ℕ → Type 0
AreBelowFour bytes from to = (k : ℕ) → from ≤ k → k < to → begins_four (slice_index_or bytes k 0) ≡ false

-- the units of UTF-16: two for a code point of four bytes
abbrev pub utf16_weight : ℕ → ℕ
utf16_weight b = (if is_lead b then 1 else 0) + (if begins_four b then 1 else 0)

-- a byte that begins a code point that isn't ASCII
abbrev pub begins_wide : ℕ → Bool
begins_wide b = nat_le 0xC0 b

-- the bytes of an encoding of pairs: two for each of these
abbrev pub pair_weight : ℕ → ℕ
pair_weight b = (if is_lead b then 1 else 0) + (if begins_wide b then 1 else 0)

-- none weighs more than two
pub scalar-small : (b : ℕ) → one_lead b ≤ 2
scalar-small b = grind (arith, nat_tests)

pub utf16-small : (b : ℕ) → utf16_weight b ≤ 2
utf16-small b = grind (arith, nat_tests)

pub pair-small : (b : ℕ) → pair_weight b ≤ 2
pair-small b = grind (arith, nat_tests)

-- the bytes of UTF-8 that a unit of UTF-16 stands for: each of a pair stands for two of four
abbrev pub unit_weight : ℕ → ℕ
unit_weight u =
    if nat_lt u 0x80 then 1 else (if nat_lt u 0x800 || (nat_le 0xD800 u && nat_lt u 0xE000) then 2 else 3)

-- a unit that stands for a second byte, and one that stands for a third
abbrev pub has_two : ℕ → Bool
has_two u = nat_le 0x80 u

abbrev pub has_three : ℕ → Bool
has_three u = (nat_le 0x800 u && nat_lt u 0xD800) || nat_le 0xE000 u

-- the byte after the leading code points that weigh n, if trailing bytes weigh nothing
abbrev pub place_in : (ℕ → ℕ) → List ℕ → ℕ → Select
place_in weight [] n = if n == 0 then At 0 else Past
place_in weight (b ∷ bs) n =
    if weight b == 0 then moved 1 (place_in weight bs n)
    else (if n == 0 then At 0 else (if nat_lt n (weight b) then Inside else moved 1 (place_in weight bs (n - weight b))))

-- how many code points in front weigh n at most, where trailing bytes weigh nothing
abbrev pub within_in : (ℕ → ℕ) → List ℕ → ℕ → ℕ
within_in weight [] n = 0
within_in weight (b ∷ bs) n = if nat_lt n (weight b) then 0 else one_lead b + within_in weight bs (n - weight b)
