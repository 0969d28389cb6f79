-- A loaded index and look-ups in it (Encoding Standard, "Indexes").
use Rattle.std.specs.Prelude.{◌≡◌, ℕ, ◌+◌, ◌<◌, nat_le, Bool, true, false, List, filter, get_or, Option, None, Some, if◌then◌else◌, option_to_list}
use Rattle.index_loader.specs.{declared.kind.IndexKind.IndexKind, declared.kind.IndexKind.TheVariants.Gb18030Ranges, Pairs.Pairs, Pairs.code_point_at}
use Rattle.index_loader.specs.{Pairs.pointers_with, Pairs.least, Pairs.greatest, Ranges.range_code_point, Ranges.range_pointer}

-- an index: the kind of its file and the pairs that the file holds
pub record Loaded : Type 0 where
  pub kind : IndexKind
  pub pairs : Pairs

-- only the ranges of gb18030 have a rule of their own
abbrev pub is_ranges : IndexKind → Bool
is_ranges Gb18030Ranges = true
is_ranges _ = false

-- the code point of a pointer
abbrev pub code_point_of : Loaded → ℕ → Option ℕ
code_point_of index pointer =
    if is_ranges index.kind then range_code_point index.pairs pointer else code_point_at index.pairs pointer

-- the code point of a pointer, except in the ranges
abbrev pub table_code_point_of : Loaded → ℕ → Option ℕ
table_code_point_of index pointer = if is_ranges index.kind then None else code_point_of index pointer

-- a list with these at their pointers
abbrev pub IsTableOf : Loaded → List (Option ℕ) → Type 0
IsTableOf index table = (pointer : ℕ) → get_or table pointer None ≡ table_code_point_of index pointer

-- the code points of all bytes: an ASCII byte's is the byte, and the others have those of the pointers, starting at 0
pub record AreFormsOfBytes (index : Loaded) (forms : List (Option ℕ)) : Type 0 where
  pub ascii : (byte : ℕ) → byte < 0x80 → get_or forms byte None ≡ Some byte
  pub high : (pointer : ℕ) → pointer < 0x80 → get_or forms (pointer + 0x80) None ≡ table_code_point_of index pointer

-- all pointers of a code point; in the ranges it has at most one
abbrev pub pointers_of : Loaded → ℕ → List ℕ
pointers_of index code_point =
    if is_ranges index.kind then option_to_list (range_pointer index.pairs code_point) else pointers_with code_point index.pairs

-- the smallest pointer of a code point ("index pointer")
abbrev pub pointer_of : Loaded → ℕ → Option ℕ
pointer_of index code_point = least (pointers_of index code_point)

-- the smallest pointer of a code point from a bound on
abbrev pub pointer_from_of : Loaded → ℕ → ℕ → Option ℕ
pointer_from_of index code_point bound = least (filter (nat_le bound) (pointers_of index code_point))

-- the greatest pointer of a code point
abbrev pub last_pointer_of : Loaded → ℕ → Option ℕ
last_pointer_of index code_point = greatest (pointers_of index code_point)
