-- Places of a text, each reached from one before.
use Rattle.std.specs.Prelude.{◌≡◌, ℕ, ◌<◌, false, ◌&&◌, List, ◌∷◌, ◌++◌, length, get_or}
use Rattle.std.specs.Str.{chars}
use Rattle.lane_ascii.specs.Marks.{marks, ends_cr}
use Rattle.piece_rope.specs.Outcomes.{begins_lf}
use Rattle.position_map.specs.declared.{diagnostic.ErrorAt.ErrorAt, reach.Reached.Reached}
use Rattle.position_map.specs.{declared.reach.Stretch.Stretch, declared.unit.Unit.Unit as TextUnit, Marked.IsLineStart, Widths.width}

-- code point `n` of a text is that of an error
pub record IsErrorIn (text : List ℕ) (n : ℕ) : Type 0 where
  pub front : List ℕ
  pub back : List ℕ
  pub split : text ≡ front ++ 0xFFFD ∷ back
  pub at : n ≡ length front

-- the same of each of these
abbrev pub AreErrorsIn : List ℕ → List ErrorAt → Type 0
AreErrorsIn text es = (k : ℕ) (x : ErrorAt) → k < length es → IsErrorIn text (get_or es k x).scalar

-- line number `line` begins after `units` units
pub record BeginsLine (unit : TextUnit) (text : List ℕ) (line units : ℕ) : Type 0 where
  pub scalars : ℕ
  pub is : IsLineStart unit text line (record { scalars = scalars; units = units })

-- a place of a text, which isn't between CR and LF
pub record IsReached (unit : TextUnit) (text : List ℕ) (x : Reached) : Type 0 where
  pub front : List ℕ
  pub far : List ℕ
  pub split : text ≡ front ++ (chars x.rest.now ++ far)
  pub at : x.scalars ≡ length front
  pub wide : x.units ≡ width unit front
  pub count : x.line ≡ marks false front
  pub apart : (ends_cr false front && begins_lf (chars x.rest.now ++ far)) ≡ false
  pub begun : BeginsLine unit text x.line x.start

-- a part of a text before an offset, and what follows it in its piece
pub record IsStretch (unit : TextUnit) (text : List ℕ) (offset : ℕ) (x : Stretch) : Type 0 where
  pub front : List ℕ
  pub far : List ℕ
  pub split : text ≡ (front ++ chars x.part.now) ++ (chars x.rest.now ++ far)
  pub at : offset ≡ length (front ++ chars x.part.now)
  pub wide : x.units ≡ width unit front
  pub count : x.marks ≡ marks false front
  pub ends : marks x.after_cr (chars x.part.now) ≡ marks (ends_cr false front) (chars x.part.now)
