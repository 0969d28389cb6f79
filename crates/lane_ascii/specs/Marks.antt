-- Line marks (LSP 3.17, "Text Documents"): CR LF, CR and LF end a line, and each has one mark, its CR or else its LF.
use Rattle.std.specs.Prelude.{◌≡◌, ℕ, ◌+◌, ◌<◌, Bool, true, not, ◌&&◌, ◌||◌, ◌==◌, List, [], ◌∷◌, length, take, slice_index, if◌then◌else◌}

abbrev pub cr : ℕ
cr = 0x0D

abbrev pub lf : ℕ
lf = 0x0A

-- whether an element is a mark; the flag says whether it follows a CR
abbrev pub is_mark : Bool → ℕ → Bool
is_mark after_cr b = (b == cr) || ((b == lf) && not after_cr)

abbrev pub one_if : Bool → ℕ
one_if b = if b then 1 else 0

-- how many marks there are
abbrev pub marks : Bool → List ℕ → ℕ
marks after_cr [] = 0
marks after_cr (b ∷ bs) = one_if (is_mark after_cr b) + marks (b == cr) bs

-- whether the last is a CR; the flag says so of what precedes
abbrev pub ends_cr : Bool → List ℕ → Bool
ends_cr after_cr [] = after_cr
ends_cr after_cr (b ∷ bs) = ends_cr (b == cr) bs

-- the index of a mark with n marks before it
pub record IsNthMark (after_cr : Bool) (bytes : List ℕ) (n at : ℕ) : Type 0 where
  pub within : at < length bytes
  pub before : marks after_cr (take at bytes) ≡ n
  pub is : is_mark (ends_cr after_cr (take at bytes)) (slice_index bytes at) ≡ true

-- for each element whether it is a mark
abbrev pub mark_flags : Bool → List ℕ → List Bool
mark_flags after_cr [] = []
mark_flags after_cr (b ∷ bs) = is_mark after_cr b ∷ mark_flags (b == cr) bs
