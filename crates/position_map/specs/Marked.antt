-- Line marks of a text, and the lines between them.
use Rattle.std.specs.Prelude.{◌≡◌, ℕ, ◌-◌, Bool, true, false, List, [], ◌∷◌, ◌++◌, length, Some, slice_get}
use Rattle.std.specs.{Option.option_map, Str.chars}
use Rattle.lane_ascii.specs.Marks.{is_mark, marks, ends_cr}
use Rattle.piece_rope.specs.Search.{Mark}
use Rattle.position_map.specs.declared.{marks.LineMark.LineMark, unit.Point.Point, cuts.TextCut.TextCut}
use Rattle.position_map.specs.{declared.unit.Unit.Unit as TextUnit, Lines.LineSpan, Lines.lines_of, Located.IsLocated, Points.IsPoint}

-- whether a mark is first; the flag says whether a CR precedes
abbrev pub begins_mark : Bool → List ℕ → Bool
begins_mark after_cr [] = false
begins_mark after_cr (c ∷ cs) = is_mark after_cr c

-- a text in two parts, the second of which begins with mark `n`
pub record IsMarkCut (after_cr : Bool) (cs : List ℕ) (n : ℕ) (front back : List ℕ) : Type 0 where
  pub split : cs ≡ front ++ back
  pub count : marks after_cr front ≡ n
  pub is : begins_mark (ends_cr after_cr front) back ≡ true

-- a text cut before mark `n`
pub record IsMark (text : List ℕ) (n : ℕ) (front : List ℕ) (c : ℕ) (back : List ℕ) : Type 0 where
  pub split : text ≡ front ++ c ∷ back
  pub count : marks false front ≡ n
  pub is : is_mark (ends_cr false front) c ≡ true

-- a part of a text cut before the text's mark `n`
pub record IsCutAtMark (text : List ℕ) (n : ℕ) (m : TextCut) : Type 0 where
  pub here : List ℕ
  pub place : IsLocated Mark n text m.before here
  pub cut : IsMarkCut m.before.cr_last here (n - m.before.marks) (chars m.front.now) (chars m.rest.now)
  pub scalars : m.scalars ≡ length (chars m.front.now)

-- the place of mark `n`; `near` is what follows it in its piece
pub record IsMarkAt (unit : TextUnit) (text : List ℕ) (n : ℕ) (m : LineMark) : Type 0 where
  pub front : List ℕ
  pub c : ℕ
  pub near : List ℕ
  pub far : List ℕ
  pub mark : IsMark text n front c (near ++ far)
  pub at : m.at.scalars ≡ length front
  pub point : IsPoint unit text m.at
  pub rest : chars m.rest.now ≡ c ∷ near

abbrev pub start_of : LineSpan → ℕ
start_of l = l.start

abbrev pub end_of : LineSpan → ℕ
end_of l = l.end

-- where line `n` starts, and where it ends
pub record IsLineStart (unit : TextUnit) (text : List ℕ) (n : ℕ) (p : Point) : Type 0 where
  pub point : IsPoint unit text p
  pub is : option_map start_of (slice_get (lines_of text) n) ≡ Some p.scalars

pub record IsLineEnd (unit : TextUnit) (text : List ℕ) (n : ℕ) (p : Point) : Type 0 where
  pub point : IsPoint unit text p
  pub is : option_map end_of (slice_get (lines_of text) n) ≡ Some p.scalars
