-- Points of a text, counted in code points and in a unit.
use Rattle.std.specs.Prelude.{◌≡◌, ℕ, ◌+◌, ◌≤◌, List, length, take}
use Rattle.position_map.specs.{declared.unit.Point.Point, declared.unit.Unit.Unit as TextUnit, Widths.width}

pub record IsPoint (unit : TextUnit) (text : List ℕ) (p : Point) : Type 0 where
  pub within : p.scalars ≤ length text
  pub units : p.units ≡ width unit (take p.scalars text)

-- the text's end
pub record IsTextEnd (unit : TextUnit) (text : List ℕ) (p : Point) : Type 0 where
  pub scalars : p.scalars ≡ length text
  pub units : p.units ≡ width unit text

-- the point after a text that follows `scalars` code points and `units` units
pub record IsBehind (unit : TextUnit) (scalars units : ℕ) (front : List ℕ) (p : Point) : Type 0 where
  pub scalars_are : p.scalars ≡ scalars + length front
  pub units_are : p.units ≡ units + width unit front
