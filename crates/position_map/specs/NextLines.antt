-- The line that comes next, as it is found from the one before.
use Rattle.std.specs.Prelude.{◌≡◌, ℕ, ◌≤◌, false, ◌&&◌, List, ◌++◌, length, Option, Some, None, slice_get}
use Rattle.std.specs.{Option.option_map, Str.chars}
use Rattle.lane_ascii.specs.Marks.{marks, ends_cr}
use Rattle.piece_rope.specs.{Outcomes.begins_lf, Document.Document}
use Rattle.position_map.specs.{declared.lines.NextLine.NextLine, declared.unit.Unit.TheVariants.Utf8, Lines.lines_of, Marked.start_of, Widths.width}

-- a document, and the number of the line that comes next
pub record LinesFrom : Type 0 where
  pub doc : Document
  pub number : ℕ

-- the start of line `n`, and what follows it in its piece
pub record IsNextLine (text : List ℕ) (n : ℕ) (x : NextLine) : Type 0 where
  pub front : List ℕ
  pub far : List ℕ
  pub split : text ≡ front ++ (chars x.rest.now ++ far)
  pub at : x.start.scalars ≡ length front
  pub units : x.start.units ≡ width Utf8 front
  pub count : marks false front ≡ n
  pub apart : (ends_cr false front && begins_lf (chars x.rest.now ++ far)) ≡ false
  pub is : option_map start_of (slice_get (lines_of text) n) ≡ Some x.start.scalars

-- the line that comes next, or none
abbrev pub IsAhead : List ℕ → ℕ → Option NextLine → Type 0
IsAhead text n None = length (lines_of text) ≤ n
IsAhead text n (Some x) = IsNextLine text n x
