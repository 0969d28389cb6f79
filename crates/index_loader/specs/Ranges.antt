-- Look-ups in the ranges of gb18030 (Encoding Standard, "index gb18030 ranges code point" and "index gb18030 ranges pointer").
use Rattle.std.specs.Prelude.{ℕ, ◌+◌, ◌-◌, ◌==◌, nat_lt, nat_le, Bool, ◌&&◌, ◌||◌, map, filter, Option, Some, None, if◌then◌else◌, option_and_then}
use Rattle.index_loader.specs.{Pairs.Pairs, Pairs.code_point_at, Pairs.pointers_with, Pairs.least, Pairs.greatest, Scalars.as_scalar}

-- the pointers after the four bytes of the Basic Multilingual Plane and before those of the planes above
abbrev pub is_in_gap : ℕ → Bool
is_in_gap pointer = nat_le 39420 pointer && nat_le pointer 188999

-- the greatest pointer of a row that isn't above this one
abbrev pub row_pointer : Pairs → ℕ → Option ℕ
row_pointer rows pointer = greatest (filter (λ start. nat_le start pointer) (map (λ row. row.0) rows))

-- the greatest code point of a row that isn't above this one
abbrev pub row_code_point : Pairs → ℕ → Option ℕ
row_code_point rows code_point = greatest (filter (λ start. nat_le start code_point) (map (λ row. row.1) rows))

-- the code point that is as far after its row's as the pointer is after its row's
abbrev pub code_point_in_row : Pairs → ℕ → ℕ → Option ℕ
code_point_in_row rows pointer start = option_and_then (λ first. as_scalar (first + (pointer - start))) (code_point_at rows start)

-- the code point of a pointer
abbrev pub range_code_point : Pairs → ℕ → Option ℕ
range_code_point rows pointer =
    if is_in_gap pointer || nat_lt 1237575 pointer then None
    else if pointer == 7457 then Some 0xE7C7
    else option_and_then (code_point_in_row rows pointer) (row_pointer rows pointer)

-- the pointer, unless no code point has it
abbrev pub outside_gap : ℕ → Option ℕ
outside_gap pointer = if is_in_gap pointer then None else Some pointer

-- the pointer that is as far after its row's as the code point is after its row's; of rows with one code point the smallest pointer
-- counts
abbrev pub pointer_in_row : Pairs → ℕ → ℕ → Option ℕ
pointer_in_row rows code_point start = option_and_then (λ first. outside_gap (first + (code_point - start))) (least (pointers_with start rows))

-- the pointer of a code point
abbrev pub range_pointer : Pairs → ℕ → Option ℕ
range_pointer rows code_point =
    if code_point == 0xE7C7 then Some 7457
    else option_and_then (pointer_in_row rows code_point) (row_code_point rows code_point)
