-- Pairs of a pointer and a code point, and look-ups in them (Encoding Standard, "Indexes").
use Rattle.std.specs.Prelude.{ℕ, ◌==◌, nat_lt, min, max, List, [], ◌∷◌, map, filter, Option, Some, None, if◌then◌else◌}

-- pointers, each with its code point, in the order of the pointers
abbrev pub Pairs : Type 0
Pairs = List (ℕ × ℕ)

-- the pairs and one more, put at its place
abbrev pub inserted : ℕ × ℕ → Pairs → Pairs
inserted pair [] = pair ∷ []
inserted pair (other ∷ others) = if nat_lt pair.0 other.0 then pair ∷ other ∷ others else other ∷ inserted pair others

-- the code point of a pointer ("index code point")
abbrev pub code_point_at : Pairs → ℕ → Option ℕ
code_point_at [] pointer = None
code_point_at (pair ∷ pairs) pointer = if pair.0 == pointer then Some pair.1 else code_point_at pairs pointer

-- all pointers of a code point
abbrev pub pointers_with : ℕ → Pairs → List ℕ
pointers_with code_point pairs = map (λ pair. pair.0) (filter (λ pair. pair.1 == code_point) pairs)

-- the smaller of a number and another, if there is another
abbrev pub lesser : ℕ → Option ℕ → ℕ
lesser n None = n
lesser n (Some m) = min n m

-- the greater of a number and another, if there is another
abbrev pub greater : ℕ → Option ℕ → ℕ
greater n None = n
greater n (Some m) = max n m

-- the least of some numbers, if there is one
abbrev pub least : List ℕ → Option ℕ
least [] = None
least (n ∷ ns) = Some (lesser n (least ns))

-- the greatest of some numbers, if there is one
abbrev pub greatest : List ℕ → Option ℕ
greatest [] = None
greatest (n ∷ ns) = Some (greater n (greatest ns))
