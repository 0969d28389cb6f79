-- The code points of errors, as pieces remember the items.
use Rattle.std.specs.Prelude.{ℕ, ◌+◌, List, [], ◌∷◌, if◌then◌else◌}
use Rattle.piece_rope.specs.Outcomes.{Ended}
use Rattle.position_map.specs.declared.diagnostic.ErrorAt.{ErrorAt}

abbrev pub scalar_of : ErrorAt → ℕ
scalar_of e = e.scalar

-- the numbers of the code points of the errors among items, the first of which begins with code point number `n`
abbrev pub error_scalars : ℕ → List Ended → List ℕ
error_scalars n [] = []
error_scalars n (e ∷ es) = if e.error then n ∷ error_scalars (n + e.scalars) es else error_scalars (n + e.scalars) es
