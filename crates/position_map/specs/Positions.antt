-- Positions and offsets (LSP 3.17, "Position"), and what LSP leaves open (docs/PROTOCOL.md). Offsets count code points.
use Rattle.std.specs.Prelude.{ℕ, ◌+◌, ◌-◌, ◌==◌, List, [], ◌∷◌, length, take, drop, nat_lt, nat_le, if◌then◌else◌, min, Option, Some, None, Result, Ok, Err}
use Rattle.std.specs.Prelude.{slice_get, count_by}
use Rattle.std.specs.Option.{option_map, ok_or}
use Rattle.position_map.specs.declared.unit.Unit.{Unit as TextUnit}
use Rattle.position_map.specs.declared.fault.PosFault.{PosFault, TheVariants.OutOfRange, TheVariants.SplitsCharacter}
use Rattle.position_map.specs.{declared.position.Position.Position, Widths.width_of, Widths.width, Lines.LineSpan, Lines.lines_of}

-- the code points `i..j`
abbrev pub between : List ℕ → ℕ → ℕ → List ℕ
between text i j = take (j - i) (drop i text)

-- how many code points take `n` units: all, where they take fewer; none, where the last of the units is inside a code point
abbrev pub along : TextUnit → List ℕ → ℕ → Option ℕ
along unit [] n = Some 0
along unit (c ∷ cs) n =
    if n == 0 then Some 0
    else (if nat_lt n (width_of unit c) then None else option_map (λ k. k + 1) (along unit cs (n - width_of unit c)))

-- the offset of a character on a line; past the line's length it is the line's end
abbrev pub offset_on : List ℕ → TextUnit → LineSpan → ℕ → Result ℕ PosFault
offset_on text unit l character = ok_or (option_map (λ k. l.start + k) (along unit (between text l.start l.end) character)) SplitsCharacter

-- on a line past the last it is the text's end
abbrev pub offset_at : List ℕ → TextUnit → Option LineSpan → ℕ → Result ℕ PosFault
offset_at text unit None character = Ok (length text)
offset_at text unit (Some l) character = offset_on text unit l character

-- the offset of a position
unfoldable pub offset_of : List ℕ → TextUnit → Position → Result ℕ PosFault
offset_of text unit p = offset_at text unit (slice_get (lines_of text) p.line) p.character

-- the number of the last line that starts at or before the offset
abbrev pub line_at : List ℕ → ℕ → ℕ
line_at text offset = count_by (λ (l : LineSpan). nat_le l.start offset) (lines_of text) - 1

-- the units from a line's start to the offset, or to the line's end, whichever comes first
abbrev pub character_at : List ℕ → TextUnit → Option LineSpan → ℕ → ℕ
character_at text unit None offset = 0
character_at text unit (Some l) offset = width unit (between text l.start (min offset l.end))

-- the position of an offset within the text
abbrev pub position : List ℕ → TextUnit → ℕ → Position
position text unit offset = record { line = line_at text offset; character = character_at text unit (slice_get (lines_of text) (line_at text offset)) offset }

-- the position of an offset
unfoldable pub position_of : List ℕ → TextUnit → ℕ → Result Position PosFault
position_of text unit offset = if nat_le offset (length text) then Ok (position text unit offset) else Err OutOfRange

-- how many units in `to` the code points take that take `n` units in `from`
unfoldable pub converted : List ℕ → TextUnit → TextUnit → ℕ → Result ℕ PosFault
converted text from to n =
    if nat_le n (width from text)
    then ok_or (option_map (λ k. width to (take k text)) (along from text n)) SplitsCharacter
    else Err OutOfRange
