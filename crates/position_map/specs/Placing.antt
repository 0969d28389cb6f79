-- Where items are among those of a document.
use Rattle.std.specs.Prelude.{◌≡◌, ℕ, ◌-◌, ◌<◌, ◌≤◌, ◌⊎◌, List, [], ◌∷◌, ◌++◌, length, get_or, Some}
use Rattle.piece_rope.specs.{Chained.last_to, Decode.Placed}
use Rattle.piece_rope.specs.{Outcomes.Ended, Outcomes.Outcome, Outcomes.Sum, Outcomes.joined, Outcomes.total_of, Document.decoded, Made.IsEnded, Made.ends_at}
use Rattle.position_map.specs.{Places.place_of, Whole.Pieced}

abbrev pub bom_of : Pieced → ℕ
bom_of d = (decoded d.doc).bom

-- item `k` of a piece that begins at byte `base` has code point `n`
pub record HasItem (base : ℕ) (ps : List Placed) (es : List Ended) (n k : ℕ) : Type 0 where
  pub front : List Placed
  pub item : Placed
  pub back : List Placed
  pub split : ps ≡ front ++ item ∷ back
  pub len : length front ≡ k
  pub within : k < length es
  pub ended : (d : Ended) → IsEnded base item (get_or es k d)
  pub last : (d : Ended) (from : ℕ) → 0 < k → last_to from front ≡ ends_at base (get_or es (k - 1) d).end
  pub place : (more : List Placed) → place_of (ps ++ more) n ≡ Some (record { from = item.from; to = item.to })

-- a piece that number `n` of a measure is sought in (a code point or an error, for example), or the tail
pub record IsPlaced (measured : Sum → ℕ) (d : Pieced) (n : ℕ) (s : Sum) (here : Outcome) : Type 0 where
  pub front : List Outcome
  pub pieces : List Outcome
  pub back : List Outcome
  pub cut : d.pieces ≡ front ++ pieces
  pub split : d.pieces ++ d.tail ∷ [] ≡ front ++ here ∷ back
  pub sum : s ≡ total_of front
  pub low : measured s ≤ n
  pub high : (back ≡ []) ⊎ (n < measured (joined s here.sum))
