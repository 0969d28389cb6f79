-- Decoding over old pieces, until the new state is the one in which a piece was entered.
use Rattle.std.specs.Prelude.{◌≡◌, ◌≢◌, ℕ, ◌+◌, ◌≤◌, suc, List, take, length, slice_get, Some}
use Rattle.state_memo.specs.Decoding.{feed, AnyDecoding, AnyState, any}
use Rattle.piece_rope.specs.{Entry.Entry, Chain.Chain, Chain.IsOwn, Chain.IsRenewed, Chain.bytes_of, Chain.state_after}

-- the piece `p` entered in `state`, and the state after it then
pub record IsRenewal (d : AnyDecoding) (p : Entry) (state : AnyState) (r : Entry) (exit : AnyState) : Type 0 where
  pub renewed : IsRenewed p r
  pub entry : r.entry ≡ state
  pub own : IsOwn d r
  pub exit_is : exit ≡ (feed (any d) state p.piece.bytes).state

-- the piece before place `count` was entered in another state than the new one
abbrev pub LastDiffers : AnyDecoding → AnyState → List Entry → ℕ → Type 0
LastDiffers d entry ps count = (j : ℕ) (p : Entry) → suc j ≡ count → slice_get ps j ≡ Some p → p.entry ≢ state_after d entry (take j ps)

-- `count` pieces were gone over, from the new state `entry`, while the meter went from `old` to `new`
pub record Passed (d : AnyDecoding) (entry : AnyState) (ps : List Entry) (old new : ℕ) : Type 0 where
  pub count : ℕ
  pub within : count ≤ length ps
  pub differs : LastDiffers d entry ps count
  pub most : new ≤ old + length (bytes_of (take count ps))

-- the old pieces after an edit, as they were entered, and the state after them
pub record Behind (d : AnyDecoding) (ps : List Entry) (end : AnyState) : Type 0 where
  pub from : AnyState
  pub chain : Chain d from ps
  pub end_is : end ≡ state_after d from ps
