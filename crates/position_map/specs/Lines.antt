-- The lines of a text (LSP 3.17, "Text Documents": line ends are CR LF, LF and CR).
use Rattle.std.specs.Prelude.{ℕ, ◌+◌, ◌==◌, ◌||◌, ◌&&◌, List, [], ◌∷◌, if◌then◌else◌}
use Rattle.lane_ascii.specs.Marks.{cr, lf}

-- where a line starts and where it ends without its line end, in code points from the text's start
pub record LineSpan : Type 0 where
  pub start : ℕ
  pub end : ℕ

-- The lines of a text whose first code point is number `at`, inside a line that starts at `start`: cut at CR LF, at CR, at LF,
-- in this preference.
abbrev pub lines_from : ℕ → ℕ → List ℕ → List LineSpan
lines_from start at [] = record { start = start; end = at } ∷ []
lines_from start at (c ∷ []) =
    if (c == cr) || (c == lf)
    then record { start = start; end = at } ∷ record { start = at + 1; end = at + 1 } ∷ []
    else record { start = start; end = at + 1 } ∷ []
lines_from start at (c ∷ d ∷ rest) =
    if (c == cr) && (d == lf)
    then record { start = start; end = at } ∷ lines_from (at + 2) (at + 2) rest
    else (if (c == cr) || (c == lf)
    then record { start = start; end = at } ∷ lines_from (at + 1) (at + 1) (d ∷ rest)
    else lines_from start (at + 1) (d ∷ rest))

-- the line table
unfoldable pub lines_of : List ℕ → List LineSpan
lines_of text = lines_from 0 0 text
