-- How long the pieces of a document are.
use Rattle.std.specs.Prelude.{◌≡◌, ℕ, ◌≤◌, List, [], ◌∷◌, length}
use Rattle.piece_rope.specs.Entry.{Entry, entry_sum}

-- no piece has more bytes than this
abbrev pub longest : ℕ
longest = 2048

-- and none has fewer than this, except a sole one
abbrev pub shortest : ℕ
shortest = 512

-- so that a document, of 16 MiB at most, has no more pieces than this
abbrev pub most_pieces : ℕ
most_pieces = 32768

abbrev pub AreSized : ℕ → List Entry → Type 0
AreSized least [] = Unit {0}
AreSized least (p ∷ ps) = (least ≤ length p.piece.bytes) × (length p.piece.bytes ≤ longest) × AreSized least ps

-- the pieces of one document
pub record HasSizes (ps : List Entry) : Type 0 where
  pub small : AreSized 1 ps
  pub wide : 2 ≤ length ps → AreSized shortest ps

-- each piece's sum counts its bytes
abbrev pub AreCounted : List Entry → Type 0
AreCounted [] = Unit {0}
AreCounted (p ∷ ps) = ((entry_sum p).bytes ≡ length p.piece.bytes) × AreCounted ps

-- and counts no more bytes than a piece can have
abbrev pub AreShort : List Entry → Type 0
AreShort [] = Unit {0}
AreShort (p ∷ ps) = ((entry_sum p).bytes ≤ longest) × AreShort ps

-- so few that their sums can be joined in 32 bits
pub record CanJoin (ps : List Entry) : Type 0 where
  pub short : AreShort ps
  pub few : length ps ≤ most_pieces
