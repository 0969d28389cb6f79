-- The errors of a piece, as it remembers its items.
use Rattle.std.specs.Prelude.{ℕ, ◌+◌, List, [], ◌∷◌, Option, Some, None, if◌then◌else◌}
use Rattle.piece_rope.specs.{Made.ends_at, Outcomes.Ended}
use Rattle.position_map.specs.declared.diagnostic.ErrorAt.{ErrorAt}

-- the errors among items of a piece that begins at byte `base`, the first of which begins at byte `from`, with code point number `n`
abbrev pub error_ats : ℕ → ℕ → ℕ → List Ended → List ErrorAt
error_ats base from n [] = []
error_ats base from n (e ∷ es) =
    if e.error
    then record { place = record { from = from; to = ends_at base e.end }; scalar = n } ∷ error_ats base (ends_at base e.end) (n + e.scalars) es
    else error_ats base (ends_at base e.end) (n + e.scalars) es

-- where an item of a piece that begins at byte `base` ends, or else `from`
abbrev pub end_or : ℕ → ℕ → Option Ended → ℕ
end_or base from None = from
end_or base from (Some e) = ends_at base e.end
