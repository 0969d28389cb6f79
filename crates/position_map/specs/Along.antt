-- What a search along a text by units finds.
use Rattle.std.specs.Prelude.{◌≡◌, ℕ, ◌<◌, List, ◌++◌, length, Some, None}
use Rattle.std.specs.Str.{chars}
use Rattle.position_map.specs.declared.cuts.Along.{Along, TheVariants.At, TheVariants.Inside, TheVariants.Past}
use Rattle.position_map.specs.{declared.unit.Unit.Unit as TextUnit, Widths.width, Positions.along}

-- the code points that take n units, as the text's front
pub record IsAlongFront (unit : TextUnit) (cs : List ℕ) (n : ℕ) (front : List ℕ) : Type 0 where
  pub back : List ℕ
  pub split : cs ≡ front ++ back
  pub along : along unit cs n ≡ Some (length front)

abbrev pub IsAlong : TextUnit → List ℕ → ℕ → Along → Type 0
IsAlong unit cs n (At front) = IsAlongFront unit cs n (chars front.now)
IsAlong unit cs n Inside = along unit cs n ≡ None
IsAlong unit cs n Past = width unit cs < n
