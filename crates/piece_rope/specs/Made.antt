-- What the pieces of a document and its end make up.
use Rattle.std.specs.Prelude.{◌≡◌, ℕ, ℤ, pos, ◌+ℤ◌, ◌+◌, ◌-◌, ◌≤◌, List, [], ◌∷◌, ◌++◌, take, drop, length, Option, Some, None}
use Rattle.std.specs.Int.{saturate_unsigned, w64}
use Rattle.state_memo.specs.Decoding.{AnyDecoding, Placed, any, any_start, code_points, decoder_in, feed, item_code_points, run}
use Rattle.state_memo.specs.{Items.is_an_error, declared.ended.Ended.Ended, declared.outcome.Outcome.Outcome}
use Rattle.piece_rope.specs.Document.{Document, decoded}

-- the place of an end that is counted from byte `base`
abbrev pub ends_at : ℕ → ℤ → ℕ
ends_at base end = saturate_unsigned w64 (pos base +ℤ end)

-- an item as its piece, which begins at byte `base`, keeps it
pub record IsEnded (base : ℕ) (p : Placed) (e : Ended) : Type 0 where
  pub scalars : e.scalars ≡ length (item_code_points p.item)
  pub error : e.error ≡ is_an_error p.item
  pub end : p.to ≡ ends_at base e.end

abbrev pub AreEnded : ℕ → List Placed → List Ended → Type 0
AreEnded base [] [] = Unit {0}
AreEnded base [] (e ∷ es) = ⊥
AreEnded base (p ∷ ps) [] = ⊥
AreEnded base (p ∷ ps) (e ∷ es) = IsEnded base p e × AreEnded base ps es

-- every item ends in the piece, or less than eight bytes before it
abbrev pub EndWithin : ℕ → ℕ → List Placed → Type 0
EndWithin base bytes [] = Unit {0}
EndWithin base bytes (p ∷ ps) = (p.to ≤ base + bytes) × (base ≤ p.to + 7) × EndWithin base bytes ps

-- the items of a piece that begins at byte `base`
pub record IsMade (base : ℕ) (ps : List Placed) (o : Outcome) : Type 0 where
  pub text : o.text ≡ code_points ps
  pub items : AreEnded base ps o.items
  pub within : EndWithin base o.sum.bytes ps

-- the items of pieces in a row, the first of which begins at byte `base`
abbrev pub AreMade : ℕ → List Placed → List Outcome → Type 0
AreMade base ps [] = ps ≡ []
AreMade base ps (o ∷ os) = (here : List Placed) × (rest : List Placed) × (ps ≡ here ++ rest) × IsMade base here o × AreMade (base + o.sum.bytes) rest os

-- how many items the end of the bytes gives
abbrev pub ended_by : Option AnyDecoding → List ℕ → ℕ
ended_by None bytes = 0
ended_by (Some d) bytes = length (run (any d) (feed (any d) (any_start d) bytes).state [])

-- the items that the bytes give, and then those that their end gives
abbrev pub count_body : Document → ℕ
count_body d = length (decoded d).items - ended_by (decoder_in d.indexes d.setting) d.bytes

abbrev pub body_of : Document → List Placed
body_of d = take (count_body d) (decoded d).items

abbrev pub tail_of : Document → List Placed
tail_of d = drop (count_body d) (decoded d).items

-- the pieces' outcomes and the end's, for a document
pub record IsWhole (d : Document) (os : List Outcome) (tail : Outcome) : Type 0 where
  pub made : AreMade 0 (body_of d) os
  pub ended : IsMade (length d.bytes) (tail_of d) tail
