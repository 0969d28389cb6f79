-- Line marks where texts meet.
use Rattle.std.specs.Prelude.{ℕ, Bool, false, ◌==◌, List, [], ◌∷◌}
use Rattle.lane_ascii.specs.Marks.{lf}

-- whether the first is an LF
abbrev pub begins_lf : List ℕ → Bool
begins_lf [] = false
begins_lf (c ∷ cs) = c == lf
