-- Texts in two parts.
use Rattle.std.specs.Prelude.{◌≡◌, ℕ, List, ◌++◌, length}

-- the first has `n` code points
pub record IsScalarCut (cs : List ℕ) (n : ℕ) (front back : List ℕ) : Type 0 where
  pub split : cs ≡ front ++ back
  pub count : length front ≡ n
