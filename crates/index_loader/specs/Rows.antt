-- Rows in the order of their pointers.
use Rattle.std.specs.Prelude.{ℕ, ◌<◌, ◌≤◌, [], ◌∷◌, Option, Some, None, All, Contains, ⊤}
use Rattle.index_loader.specs.Pairs.{Pairs}

-- each pointer is above those before it
abbrev pub IsRising : Pairs → Type 0
IsRising [] = ⊤
IsRising (row ∷ rows) = All (λ other. row.0 < other.0) rows × IsRising rows

-- rows in that order, none of which has a pointer above all that files may have
abbrev pub AreRows : Pairs → Type 0
AreRows rows = IsRising rows × All (λ row. row.0 ≤ 189000) rows

-- the last of the rows up to a pointer
pub record LastRowUpTo (rows : Pairs) (bound : ℕ) (row : ℕ × ℕ) : Type 0 where
  pub there : Contains rows row
  pub up_to : row.0 ≤ bound
  pub last : All (λ other. other.0 ≤ bound → other.0 ≤ row.0) rows

-- the row is the last of those up to a pointer, or there is none of them
abbrev pub IsLastRowUpTo : Pairs → ℕ → Option (ℕ × ℕ) → Type 0
IsLastRowUpTo rows bound None = All (λ row. bound < row.0) rows
IsLastRowUpTo rows bound (Some row) = LastRowUpTo rows bound row
