-- Cuts between code points, as pieces remember the items.
use Rattle.std.specs.Prelude.{ℕ, ◌-◌, ◌==◌, nat_lt, List, [], ◌∷◌, Option, Some, None, if◌then◌else◌}
use Rattle.std.specs.Option.{option_map}
use Rattle.piece_rope.specs.{Outcomes.Ended, Document.Document, Made.ends_at, Outputs.output_at}
use Rattle.position_map.specs.{declared.places.Cut.Cut, Plan.cut}

-- the cut after the first `n` code points of a piece that begins at byte `base`, if these are at least one
abbrev pub cut_behind : ℕ → List Ended → ℕ → Option Cut
cut_behind base [] n = None
cut_behind base (e ∷ es) n =
    if nat_lt e.scalars n then cut_behind base es (n - e.scalars)
    else (if e.scalars == n then Some (record { at = ends_at base e.end; output = e.output }) else None)

-- the cut before code point number `n` of a document, with the output state there
abbrev pub cut_of : Document → ℕ → Option Cut
cut_of d n = option_map (λ at. record { at = at; output = output_at d at }) (cut d n)
