-- Pairs of neighbours.
use Rattle.std.specs.Prelude.{ℕ, List, [], ◌∷◌, ◌++◌, take, drop}

-- neighbours swapped; an odd last one stays
abbrev pub swapped : List ℕ → List ℕ
swapped (a ∷ b ∷ rest) = b ∷ a ∷ swapped rest
swapped rest = rest

-- the same, after the first n
abbrev pub swapped_from : ℕ → List ℕ → List ℕ
swapped_from n bytes = take n bytes ++ swapped (drop n bytes)

-- each with a zero after it, which makes UTF-16LE of ASCII bytes
abbrev pub spread : List ℕ → List ℕ
spread [] = []
spread (b ∷ bs) = b ∷ 0 ∷ spread bs

-- the first of each pair
abbrev pub evens : List ℕ → List ℕ
evens (a ∷ b ∷ rest) = a ∷ evens rest
evens rest = []
