-- What a sink is given.
use Rattle.std.specs.Prelude.{◌≡◌, ℕ, ◌+◌, List, [], ◌∷◌, ◌++◌, map, fold, ℤ, pos, ◌-ℤ◌}
use Rattle.decoder_core.specs.{declared.item.Item.Item, declared.item.Ended.Ended, Queue.Table, Queue.feed}

-- an item, its end relative to the slice's start, and the state after the byte that gave it
pub record Shown (S : Type 0) : Type 0 where
  pub item : Item
  pub end : ℤ
  pub after : S

-- the items of the step that read byte number `read - 1` of the slice
abbrev pub shown_at : {S : Type 0} → ℕ → S → List Ended → List (Shown S)
shown_at read after es = map (λ (e : Ended). record { item = e.item; end = pos read -ℤ pos e.back; after = after }) es

-- the items of the steps over the bytes, the first of which is byte number `read` of the slice
abbrev pub shown_from : {S : Type 0} → Table S → ℕ → S → List ℕ → List (Shown S)
shown_from table read s [] = []
shown_from table read s (b ∷ bs) =
    shown_at (read + 1) (feed table s (b ∷ [])).state (feed table s (b ∷ [])).items
    ++ shown_from table (read + 1) (feed table s (b ∷ [])).state bs

-- `new` is `old` once it took a prefix of what was shown
abbrev pub TookPrefix : {S K : Type 0} → (K → Shown S → K) → K → List (Shown S) → K → Type 0
TookPrefix {S} taken old shown new =
    (front : List (Shown S)) × (rest : List (Shown S)) × (shown ≡ front ++ rest) × (new ≡ fold taken old front)

-- what was shown, without the states
abbrev pub shown_items : {S : Type 0} → List (Shown S) → List (Item × ℤ)
shown_items shown = map (λ (x : Shown _). (x.item, x.end)) shown

-- items with their ends, seen where `read` bytes were read
abbrev pub ended_at : ℕ → List Ended → List (Item × ℤ)
ended_at read es = map (λ (e : Ended). (e.item, pos read -ℤ pos e.back)) es
