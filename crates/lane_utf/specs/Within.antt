-- How many code points at the front of a list take at most a number of units.
use Rattle.std.specs.Prelude.{ℕ, ◌+◌, ◌-◌, List, [], ◌∷◌, nat_lt, if◌then◌else◌}

-- how many code points at the front take at most n units by a width
abbrev pub within : (ℕ → ℕ) → List ℕ → ℕ → ℕ
within width [] n = 0
within width (c ∷ cs) n = if nat_lt n (width c) then 0 else 1 + within width cs (n - width c)
