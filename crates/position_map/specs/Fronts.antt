-- Fronts of a document's text.
use Rattle.std.specs.Prelude.{◌≡◌, ℕ, ◌+◌, ◌<◌, ◌≤◌, List, ◌++◌, length, take, drop, min, Some, slice_get}
use Rattle.std.specs.Str.{chars}
use Rattle.piece_rope.specs.Outcomes.{Ended, Sum, IsSumOf, begins_lf}
use Rattle.position_map.specs.declared.{positions.OnLine.OnLine, cuts.TextCut.TextCut}
use Rattle.position_map.specs.{declared.unit.Unit.Unit as TextUnit, Lines.LineSpan, Lines.lines_of, Positions.along, Positions.line_at, Widths.width}

-- a part of a text before some place: the numbers of what precedes the part, and the part
pub record IsTextFront (text : List ℕ) (before : Sum) (part : List ℕ) : Type 0 where
  pub front : List ℕ
  pub items : List Ended
  pub back : List ℕ
  pub split : text ≡ (front ++ part) ++ back
  pub sum : IsSumOf front items before

-- the code points that take `n` units
pub record IsFrontOf (unit : TextUnit) (text : List ℕ) (n : ℕ) (before : Sum) (part : List ℕ) : Type 0 where
  pub is : IsTextFront text before part
  pub along : along unit text n ≡ Some (before.scalars + length part)

-- a part of a text cut in two after `offset` of the text's code points
pub record IsCutAt (text : List ℕ) (offset : ℕ) (x : TextCut) : Type 0 where
  pub is : IsTextFront text x.before (chars x.front.now)
  pub at : offset ≡ x.before.scalars + length (chars x.front.now)
  pub scalars : x.scalars ≡ length (chars x.front.now)
  pub next : begins_lf (chars x.rest.now) ≡ begins_lf (drop offset text)

-- the line of an offset, and the units before the offset or the line's end, whichever comes first
pub record IsOnLine (unit : TextUnit) (text : List ℕ) (offset : ℕ) (p : OnLine) : Type 0 where
  pub line : p.line ≡ line_at text offset
  pub has : p.line < length (lines_of text)
  pub within : (l : LineSpan) → slice_get (lines_of text) p.line ≡ Some l → l.start ≤ min offset l.end
  pub units : (l : LineSpan) → slice_get (lines_of text) p.line ≡ Some l → p.units ≡ width unit (take (min offset l.end) text)
