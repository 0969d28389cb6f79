-- A text cut at a byte.
use Rattle.std.specs.{Prelude.ℕ, Prelude.◌==◌, Prelude.List, Prelude.[], Prelude.Option, Prelude.Some, Prelude.None, List.slice_split}

-- the parts of what follows the first of these bytes, if there is one
abbrev pub parts_behind : ℕ → Option (List ℕ) → List (List ℕ)
parts_behind byte None = []
parts_behind byte (Some rest) = slice_split (λ b. b == byte) rest
