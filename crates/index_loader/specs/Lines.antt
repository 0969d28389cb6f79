-- What a line of an index file holds (Encoding Standard, "Indexes").
use Rattle.std.specs.Prelude.{ℕ, ◌==◌, nat_le, nat_eq, Bool, not, ◌&&◌, ◌||◌, List, [], ◌∷◌, length, drop, reverse, slice_index, Option, Some, None, Result, Ok}
use Rattle.std.specs.Prelude.{Err, if◌then◌else◌, option_and_then}
use Rattle.std.specs.{Char.is_digit, List.list_all, List.slice_split, List.starts_with, Str.Lines.strip_carriage_return, Str.Parse.digits_value}
use Rattle.index_loader.specs.declared.fault.IndexCause.{IndexCause}
use Rattle.index_loader.specs.declared.fault.IndexCause.TheVariants.{BadPointer, BadCodePoint, PointerTooLarge, BadRanges}
use Rattle.index_loader.specs.{declared.kind.IndexKind.IndexKind, Index.is_ranges, Kinds.greatest_pointer, Scalars.as_scalar}

-- the lines of a file, cut at LF; one more follows the last LF, and may be empty
abbrev pub lines_of : List ℕ → List (List ℕ)
lines_of bytes = slice_split (λ b. b == 0x0A) bytes

-- the fields of a line, cut at TAB
abbrev pub fields_of : List ℕ → List (List ℕ)
fields_of line = slice_split (λ b. b == 0x09) line

-- empty lines and lines that start with '#' hold nothing
abbrev pub is_skipped : List ℕ → Bool
is_skipped line = length line == 0 || slice_index line 0 == 0x23

-- without the spaces at the front
abbrev pub behind_spaces : List ℕ → List ℕ
behind_spaces [] = []
behind_spaces (b ∷ bs) = if b == 0x20 then behind_spaces bs else b ∷ bs

-- without the spaces at both ends
abbrev pub stripped : List ℕ → List ℕ
stripped text = reverse (behind_spaces (reverse (behind_spaces text)))

-- the number of a text of digits in this base, digits above 9 in either case
abbrev pub number_in : ℕ → List ℕ → Option ℕ
number_in base text =
    if length text == 0 || not (list_all (λ b. is_digit b base) text) then None else Some (digits_value base text)

-- the scalar value of a text of `0x` and hexadecimal digits
abbrev pub scalar_in : List ℕ → Option ℕ
scalar_in text =
    if starts_with nat_eq text (0x30 ∷ 0x78 ∷ []) then option_and_then as_scalar (number_in 16 (drop 2 text)) else None

-- a row of the ranges: one of the Basic Multilingual Plane after ASCII, or that of the planes above
abbrev pub allows_row : ℕ → ℕ → Bool
allows_row pointer code_point =
    (nat_le pointer 39419 && nat_le 0x80 code_point && nat_le code_point 0xFFFF) || (pointer == 189000 && code_point == 0x10000)

-- the kind of file may have this pair
abbrev pub allows : IndexKind → ℕ → ℕ → Bool
allows kind pointer code_point =
    if is_ranges kind then allows_row pointer code_point else nat_le pointer (greatest_pointer kind)

-- the cause where it may not
abbrev pub refusal_of : IndexKind → IndexCause
refusal_of kind = if is_ranges kind then BadRanges else PointerTooLarge

-- a pointer and the code point after it, if there is one
abbrev pub pair_with : IndexKind → ℕ → Option ℕ → Result (Option (ℕ × ℕ)) IndexCause
pair_with kind pointer None = Err BadCodePoint
pair_with kind pointer (Some code_point) =
    if allows kind pointer code_point then Ok (Some (pointer, code_point)) else Err (refusal_of kind)

-- the second of the fields after the first
abbrev pub code_point_in : List (List ℕ) → Option ℕ
code_point_in [] = None
code_point_in (field ∷ fields) = scalar_in (stripped field)

-- a pointer, if there is one, and the fields after it
abbrev pub pair_behind : IndexKind → Option ℕ → List (List ℕ) → Result (Option (ℕ × ℕ)) IndexCause
pair_behind kind None fields = Err BadPointer
pair_behind kind (Some pointer) fields = pair_with kind pointer (code_point_in fields)

-- the pair in the fields of a line, or the first cause why there is none
abbrev pub pair_in : IndexKind → List (List ℕ) → Result (Option (ℕ × ℕ)) IndexCause
pair_in kind [] = Err BadPointer
pair_in kind (field ∷ fields) = pair_behind kind (number_in 10 (stripped field)) fields

-- what a line without its CR holds, by what its fields do
abbrev pub unless_skipped : {H C : Type 0} → (List (List ℕ) → Result (Option H) C) → List ℕ → Result (Option H) C
unless_skipped by_fields text = if is_skipped text then Ok None else by_fields (fields_of text)

-- the pair of a line without its CR
abbrev pub pair_of_text : IndexKind → List ℕ → Result (Option (ℕ × ℕ)) IndexCause
pair_of_text kind text = unless_skipped (pair_in kind) text

-- what a line holds: nothing, a pair, or the first cause why it is refused
abbrev pub pair_on : IndexKind → List ℕ → Result (Option (ℕ × ℕ)) IndexCause
pair_on kind line = pair_of_text kind (strip_carriage_return line)
