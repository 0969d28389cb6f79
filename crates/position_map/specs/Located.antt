-- The place of a part of a document's text.
use Rattle.std.specs.Prelude.{◌≡◌, ℕ, ◌<◌, ◌≤◌, ◌⊎◌, false, List, [], ◌++◌, length}
use Rattle.lane_ascii.specs.Marks.{marks}
use Rattle.piece_rope.specs.Search.{Axis, Byte, Scalar, Utf16 as by_utf16, Utf8 as by_utf8, Mark, measure}
use Rattle.piece_rope.specs.Outcomes.{Ended, Sum, IsSumOf}
use Rattle.position_map.specs.declared.unit.Unit.{Unit as TextUnit}
use Rattle.position_map.specs.{declared.unit.Unit.TheVariants.Utf8, declared.unit.Unit.TheVariants.Utf16, declared.unit.Unit.TheVariants.Utf32, Widths.width}

-- what is sought along is a number of the text
abbrev pub IsOfText : Axis → Type 0
IsOfText Byte = ⊥
IsOfText Scalar = Unit {0}
IsOfText by_utf16 = Unit {0}
IsOfText by_utf8 = Unit {0}
IsOfText Mark = Unit {0}

-- how far a text reaches along an axis
abbrev pub reach : Axis → List ℕ → ℕ
reach Byte cs = 0
reach Scalar cs = length cs
reach by_utf16 cs = width Utf16 cs
reach by_utf8 cs = width Utf8 cs
reach Mark cs = marks false cs

-- the axis of a unit, and the number of a sum along it
abbrev pub axis_of : TextUnit → Axis
axis_of Utf8 = by_utf8
axis_of Utf16 = by_utf16
axis_of Utf32 = Scalar

abbrev pub sum_in : TextUnit → Sum → ℕ
sum_in Utf8 s = s.utf8
sum_in Utf16 s = s.utf16
sum_in Utf32 s = s.scalars

-- a part of the text that contains the target, or the last one, and the numbers of what precedes it
pub record IsLocated (axis : Axis) (target : ℕ) (text : List ℕ) (before : Sum) (here : List ℕ) : Type 0 where
  pub front : List ℕ
  pub items : List Ended
  pub back : List ℕ
  pub split : text ≡ front ++ (here ++ back)
  pub sum : IsSumOf front items before
  pub low : measure axis before ≤ target
  pub high : (back ≡ []) ⊎ (target < reach axis (front ++ here))
