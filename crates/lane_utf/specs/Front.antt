-- The code point at the front.
use Rattle.std.specs.{Prelude.◌≡◌, Prelude.ℕ, Prelude.◌≤◌, Prelude.List, Prelude.◌∷◌, Prelude.length, Prelude.drop, Prelude.None, Char.IsScalar}
use Rattle.lane_utf.specs.Utf16.{code_points, first_lone}

-- the units begin with the code point c, which takes n of them
pub record IsUtf16Front (units : List ℕ) (c n : ℕ) : Type 0 where
  pub scalar : IsScalar c
  pub some : 1 ≤ n
  pub within : n ≤ length units
  pub first : code_points units ≡ c ∷ code_points (drop n units)
  pub paired : first_lone (drop n units) ≡ None
