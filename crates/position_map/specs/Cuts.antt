-- What follows code points of a text.
use Rattle.std.specs.Prelude.{◌≡◌, ℕ, List, ◌++◌, drop}

-- what follows n code points, or nothing if there are fewer
pub record IsRestBehind (cs : List ℕ) (n : ℕ) (rest : List ℕ) : Type 0 where
  pub far : (more : List ℕ) → (back : List ℕ) × (drop n (cs ++ more) ≡ rest ++ back)
