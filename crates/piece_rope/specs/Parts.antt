-- The text of a document, part by part.
use Rattle.std.specs.Prelude.{◌≡◌, ℕ, ◌+◌, ◌≤◌, true, List, [], ◌∷◌, ◌++◌, map, flat_map, take, drop, length}
use Rattle.state_memo.specs.{Decoding.AnyState, Memo.same_state, declared.outcome.Outcome.Outcome}
use Rattle.piece_rope.specs.{Chain.renewed, declared.edit.PreparedEdit.PreparedEdit, Edit.edited, Entry.Entry, Entry.here_of, Sizes.most_pieces}

-- what the pieces decode to, in order, and then what the end of the bytes gives
abbrev pub parts_of : List Entry → Outcome → List Outcome
parts_of ps tail = map here_of ps ++ tail ∷ []

-- their text
abbrev pub text_in : List Outcome → List ℕ
text_in os = flat_map (λ (o : Outcome). o.text) os

-- the parts once an edit is made
abbrev pub edited_parts : List Entry → PreparedEdit → List Outcome
edited_parts ps e = parts_of (edited ps e) e.tail

-- those of them that are after the new pieces
abbrev pub later_parts : List Entry → PreparedEdit → List Outcome
later_parts ps e = parts_of (renewed (drop e.last ps) e.renewals.items) e.tail

-- the new pieces, and those that are renewed
abbrev pub made_pieces : List Entry → PreparedEdit → List Entry
made_pieces ps e = e.fresh.items ++ renewed (take (length e.renewals.items) (drop e.last ps)) e.renewals.items

-- an edit that was prepared over these pieces
pub record IsPrepared (ps : List Entry) (e : PreparedEdit) : Type 0 where
  pub order : e.first ≤ e.last
  pub within : e.last + length e.renewals.items ≤ length ps
  pub few_old : length ps ≤ most_pieces
  pub few : length (edited ps e) ≤ most_pieces
  pub same : (s : AnyState) → same_state s s ≡ true
  pub exact : (a b : AnyState) → same_state a b ≡ true → a ≡ b
