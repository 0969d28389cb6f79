-- An edit that is made ready before anything changes.
use Rattle.std.specs.Prelude.{◌≡◌, ℕ, ◌+◌, ◌*◌, ◌-◌, ◌<◌, ◌≤◌, List, ◌++◌, take, drop, length}
use Rattle.state_memo.specs.Decoding.{feed, AnyDecoding, AnyState, any, any_start}
use Rattle.piece_rope.specs.{declared.edit.PreparedEdit.PreparedEdit, Entry.Entry, Chain.Chain, Chain.state_after, Chain.renewed, Sizes.HasSizes, Sizes.longest}

-- the pieces of a document
pub record IsRope (d : AnyDecoding) (ps : List Entry) (end : AnyState) : Type 0 where
  pub chain : Chain d (any_start d) ps
  pub end_is : end ≡ state_after d (any_start d) ps
  pub sizes : HasSizes ps

-- the pieces once the edit is made
abbrev pub edited : List Entry → PreparedEdit → List Entry
edited ps e = take e.first ps ++ (e.fresh.items ++ renewed (drop e.last ps) e.renewals.items)

-- bytes from `at` to `to` give way to others
abbrev pub exchanged : List ℕ → ℕ → ℕ → List ℕ → List ℕ
exchanged bytes at to ins = take at bytes ++ (ins ++ drop to bytes)

-- `m` bytes after the edit the new state is the old one, or the bytes end
abbrev pub AgreesAt : AnyDecoding → List ℕ → ℕ → ℕ → List ℕ → ℕ → Type 0
AgreesAt d bytes at to ins m =
    m < length bytes - to → (feed (any d) (any_start d) ((take at bytes ++ ins) ++ take m (drop to bytes))).state
    ≡ (feed (any d) (any_start d) (take to bytes ++ take m (drop to bytes))).state

-- how far the meter may go up from `old` to `new`
pub record Metered (d : AnyDecoding) (bytes : List ℕ) (at to : ℕ) (ins : List ℕ) (old new : ℕ) : Type 0 where
  pub most : (m : ℕ) → AgreesAt d bytes at to ins m → new ≤ old + (length ins + m + 4 * longest)
