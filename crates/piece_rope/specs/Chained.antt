-- Items in a row.
use Rattle.std.specs.Prelude.{◌≡◌, ℕ, List, [], ◌∷◌, ◌++◌}
use Rattle.state_memo.specs.Decoding.{Placed}
use Rattle.piece_rope.specs.Document.{Document, decoded}

-- each item begins where the one before ends
abbrev pub IsChained : ℕ → List Placed → Type 0
IsChained from [] = Unit {0}
IsChained from (p ∷ ps) = (p.from ≡ from) × IsChained p.to ps

-- where the last item ends, or else the start
abbrev pub last_to : ℕ → List Placed → ℕ
last_to from [] = from
last_to from (p ∷ ps) = last_to p.to ps

-- if two parts follow each other, each is one by itself, and both end where the second does; those of a document begin after
-- its mark
pub record ChainLaws : Type 0 where
  pub parts : (from : ℕ) (xs ys : List Placed) → IsChained from (xs ++ ys) → IsChained from xs × IsChained (last_to from xs) ys
  pub last : (from : ℕ) (xs ys : List Placed) → last_to from (xs ++ ys) ≡ last_to (last_to from xs) ys
  pub items : (d : Document) → IsChained (decoded d).bom (decoded d).items
