-- A table of the smallest pointers by code point, and the pairs that have no place in it.
use Rattle.std.specs.Prelude.{◌≡◌, ℕ, zero, suc, ◌+◌, ◌≤◌, ◌<◌, ◌⊎◌, List, [], ◌∷◌, ◌++◌, length, get_or, set, Option, Some, None, All}
use Rattle.index_loader.specs.Pairs.{Pairs, greater}

-- a cell holds one more than a pointer; 0 says nothing
abbrev pub pointer_in : ℕ → Option ℕ
pointer_in zero = None
pointer_in (suc pointer) = Some pointer

-- the pointer in the cell of a code point; there is none past the cells
abbrev pub first_in : List ℕ → ℕ → Option ℕ
first_in cells code_point = pointer_in (get_or cells code_point 0)

-- the pairs in cells, of which the first is that of this code point
abbrev pub pairs_in_cells : ℕ → List ℕ → Pairs
pairs_in_cells code_point [] = []
pairs_in_cells code_point (zero ∷ cells) = pairs_in_cells (code_point + 1) cells
pairs_in_cells code_point (suc pointer ∷ cells) = (pointer, code_point) ∷ pairs_in_cells (code_point + 1) cells

-- the pairs in cells, and the others
abbrev pub pairs_held : List ℕ → Pairs → Pairs
pairs_held cells others = pairs_in_cells 0 cells ++ others

-- none of the others has a smaller pointer than the cell of its code point
abbrev pub AreFirst : List ℕ → Pairs → Type 0
AreFirst cells others = All (λ other. (pointer : ℕ) → first_in cells other.1 ≡ Some pointer → pointer ≤ other.0) others

-- a pointer was put into the cell of a code point, and the one that was there is left
pub record IsPutIn (pair : ℕ × ℕ) (before after : List ℕ) (left : Option ℕ) : Type 0 where
  pub within : pair.1 < length before
  pub put : after ≡ set before pair.1 (pair.0 + 1)
  pub out : left ≡ first_in before pair.1

-- it has no place in the cells, and is left itself
pub record IsLeftOut (pair : ℕ × ℕ) (before after : List ℕ) (left : Option ℕ) : Type 0 where
  pub same : after ≡ before
  pub out : left ≡ Some pair.0
  pub great : (pointer : ℕ) → first_in before pair.1 ≡ Some pointer → pointer ≤ pair.0

-- one or the other
abbrev pub IsPut : ℕ × ℕ → List ℕ → List ℕ → Option ℕ → Type 0
IsPut pair before after left = IsPutIn pair before after left ⊎ IsLeftOut pair before after left

-- the pair of a code point and a pointer that there may be
abbrev pub pairs_left : ℕ → Option ℕ → Pairs
pairs_left code_point None = []
pairs_left code_point (Some pointer) = (pointer, code_point) ∷ []

-- a pair was put into the cells, and what they left beside the others
pub record IsTaken (pair : ℕ × ℕ) (cells : List ℕ) (others : Pairs) (cells_after : List ℕ) (others_after : Pairs) : Type 0 where
  pub left : Option ℕ
  pub put : IsPut pair cells cells_after left
  pub kept : others_after ≡ others ++ pairs_left pair.1 left

-- the greater of two numbers, of which either may be none
abbrev pub greatest_of : Option ℕ → Option ℕ → Option ℕ
greatest_of None other = other
greatest_of (Some n) other = Some (greater n other)
