-- Where a number of units ends in a text.
use Rattle.std.specs.Prelude.{ℕ, ◌+◌, ◌-◌, List, [], ◌∷◌, length, take, nat_lt, nat_le, ◌==◌, Option, Some, None, if◌then◌else◌}
use Rattle.lane_utf.specs.declared.select.Select.{Select, TheVariants.At, TheVariants.Inside, TheVariants.Past}
use Rattle.lane_utf.specs.Widths.{utf8_width, total_width}

-- the same place, with k bytes more before it
abbrev pub moved : ℕ → Select → Select
moved k (At i) = At (k + i)
moved k Inside = Inside
moved k Past = Past

-- the byte after the leading code points that take n units by a width, if whole code points take so many
abbrev pub selected : (ℕ → ℕ) → List ℕ → ℕ → Select
selected width [] n = if n == 0 then At 0 else Past
selected width (c ∷ cs) n =
    if n == 0 then At 0 else (if nat_lt n (width c) then Inside else moved (utf8_width c) (selected width cs (n - width c)))

-- the byte after the first n code points
abbrev pub scalar_place : List ℕ → ℕ → Option ℕ
scalar_place cs n = if nat_le n (length cs) then Some (total_width utf8_width (take n cs)) else None

-- the byte, if there is one
abbrev pub place_index : Select → Option ℕ
place_index (At i) = Some i
place_index Inside = None
place_index Past = None
