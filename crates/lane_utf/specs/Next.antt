-- The code point at the front of a text's bytes.
use Rattle.std.specs.{Prelude.◌≡◌, Prelude.ℕ, Prelude.◌≤◌, Prelude.List, Prelude.◌∷◌, Prelude.length, Prelude.drop, Char.IsScalar, Str.IsUtf8, Str.chars}

-- the bytes begin with the code point c, which takes n of them
pub record IsUtf8Front (bytes : List ℕ) (c n : ℕ) : Type 0 where
  pub scalar : IsScalar c
  pub some : 1 ≤ n
  pub within : n ≤ length bytes
  pub first : chars bytes ≡ c ∷ chars (drop n bytes)
  pub text : IsUtf8 (drop n bytes)
