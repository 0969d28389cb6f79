-- Pieces in a row, each entered in the state after those before it.
use Rattle.std.specs.Prelude.{◌≡◌, ◌≤◌, ℕ, List, [], ◌∷◌, length, flat_map, Some, is_some, option_map, if◌then◌else◌}
use Rattle.state_memo.specs.{Decoding.feed, Decoding.AnyDecoding, Decoding.AnyState, Decoding.any, Outcome.contents_of, Outcome.outcome_of}
use Rattle.state_memo.specs.{declared.outcome.Outcome.Outcome, Memo.Known, Memo.entered, Memo.installed, Memo.memory_of, Memo.recalled, Memo.spared}
use Rattle.piece_rope.specs.{Entry.Entry, Entry.here, Entry.here_of, Room.piece_room, Room.room_in}

-- the bytes of pieces, in order
abbrev pub bytes_of : List Entry → List ℕ
bytes_of ps = flat_map (λ (p : Entry). p.piece.bytes) ps

-- each remembered outcome is the piece's from its state
abbrev pub AreRight : AnyDecoding → List ℕ → List Known → Type 0
AreRight d bytes [] = Unit {0}
AreRight d bytes (k ∷ ks) = (contents_of k.outcome ≡ outcome_of d k.entry bytes) × AreRight d bytes ks

-- the piece remembers its own outcomes alone, and among them that from the state in which it is entered; several have room together
pub record IsOwn (d : AnyDecoding) (p : Entry) : Type 0 where
  pub right : AreRight d p.piece.bytes p.piece.known
  pub here_is : option_map contents_of (here p) ≡ Some (outcome_of d p.entry p.piece.bytes)
  pub lean : 2 ≤ length p.piece.known → memory_of p.piece.known ≤ room_in p.piece.bytes

-- each piece is entered in the state after the one before, the first in `s`, and remembers its own outcomes
abbrev pub Chain : AnyDecoding → AnyState → List Entry → Type 0
Chain d s [] = Unit {0}
Chain d s (p ∷ ps) = (p.entry ≡ s) × IsOwn d p × Chain d (feed (any d) s p.piece.bytes).state ps

-- the state after pieces
abbrev pub state_after : AnyDecoding → AnyState → List Entry → AnyState
state_after d s ps = (feed (any d) s (bytes_of ps)).state

-- a piece entered in another state, with what it remembers then
abbrev pub renew : Entry → Entry → Entry
renew p r = record { piece = record { bytes = p.piece.bytes; known = r.piece.known }; entry = r.entry }

-- the first pieces renewed, one by one
abbrev pub renewed : List Entry → List Entry → List Entry
renewed ps [] = ps
renewed [] (r ∷ rs) = []
renewed (p ∷ ps) (r ∷ rs) = renew p r ∷ renewed ps rs

-- what it remembers once it is entered in a state from which it decodes to this. If that state is among what it remembered, that is unchanged.
-- Otherwise it is this first, then what it decodes to from the state in which it was entered, and then the others. There are at most four, as far
-- as all have room together
abbrev pub known_then : Entry → AnyState → Outcome → List Known
known_then p s o =
    if is_some (recalled p.piece.known s) then p.piece.known else spared (piece_room p.piece.bytes) (installed (entered p.piece.known p.entry) s o)

-- it keeps its bytes
pub record IsRenewed (p r : Entry) : Type 0 where
  pub bytes : r.piece.bytes ≡ p.piece.bytes
  pub known : r.piece.known ≡ known_then p r.entry (here_of r)

-- so does each of the first pieces
abbrev pub AreRenewed : List Entry → List Entry → Type 0
AreRenewed ps [] = Unit {0}
AreRenewed [] (r ∷ rs) = ⊥
AreRenewed (p ∷ ps) (r ∷ rs) = IsRenewed p r × AreRenewed ps rs
