-- Parts of lists that stand in pieces, read piece by piece.
use Rattle.piece_rope.proofs.Prelude.{◌≡◌, refl, ap, ℕ, zero, suc, ◌+◌, ◌-◌, ◌≤◌, min, List, [], ◌∷◌, ◌++◌, take, drop, length, slice_get, Some, arith}
use Rattle.piece_rope.proofs.Prelude.{append_assoc, length-append, length-drop, add-one, drop-drop, drop-append-le, take_min, Entry, bytes_of, bytes_before}
use Rattle.piece_rope.proofs.Prelude.{IsPlace, slice_get_within, drop-next}
use Rattle.piece_rope.proofs.{Chaining.bytes-next, Counting.bytes-split, Preparing.bytes-rest}

pub take-split : {X : Type 0} (n : ℕ) (xs ys : List X) → take n (xs ++ ys) ≡ take n xs ++ take (n - length xs) ys
take-split zero xs ys = let e : 0 - length xs ≡ 0 = omega arith in rw e refl
take-split (suc n) [] ys = let e : suc n - 0 ≡ suc n = omega arith in rw e refl
take-split (suc n) (x ∷ xs) ys = let e : suc n - suc (length xs) ≡ n - length xs = omega arith in cc (take-split n xs ys)

-- the part that one more piece gives
pub part-step : {X : Type 0} (here behind : List X) (skip left : ℕ) → skip ≤ length here
    → take left (drop skip (here ++ behind)) ≡ take (min left (length (drop skip here))) (drop skip here)
    ++ take (left - min left (length (drop skip here))) behind
part-step here behind skip left l =
    let rest = drop skip here in
    let less : left - length rest ≡ left - min left (length rest) = omega arith in
    cc (less, drop-append-le skip here behind l, take-split left rest behind, take_min left rest)

pub bytes-behind : (ps : List Entry) (k : ℕ) (p : Entry) → slice_get ps k ≡ Some p → bytes_of (drop k ps) ≡ p.piece.bytes ++ bytes_of (drop (k + 1) ps)
bytes-behind ps k p at = cc (add-one k, drop-next ps k p at)

-- the place of the bytes that begin at a place
module _ {ps : List Entry} {from k before : ℕ} (place : IsPlace ps from k before) where
  pub bytes-from : drop (from - before) (bytes_of (drop k ps)) ≡ drop from (bytes_of ps)
  bytes-from =
      let e : bytes_before ps k + (from - before) ≡ from = omega (arith, place.before_is, place.low) in
      cc (e, bytes-rest ps k, drop-drop (from - before) (bytes_before ps k) (bytes_of ps))

  pub bytes-enough : (to : ℕ) → from ≤ to → to ≤ length (bytes_of ps) → from - before + (to - from) ≤ length (bytes_of (drop k ps))
  bytes-enough to order within =
      omega (arith, place.before_is, place.low, order, within, ap length (bytes-split ps k), length-append (bytes_of (take k ps)) (bytes_of (drop k ps)))

  pub bytes-within : (p : Entry) → slice_get ps k ≡ Some p → from - before ≤ length p.piece.bytes
  bytes-within p at = omega (arith, place.high (slice_get_within ps k p at), bytes-next ps k p at, place.before_is)

-- one more piece read: `whole` is what is left before, `more` behind it
module _ {X : Type 0} {whole : List X} (here more : List X) (skip left : ℕ) where
  pub read-step : {count : ℕ} (old : List X) {new rest : List X} → whole ≡ here ++ more → skip ≤ length here → rest ≡ drop skip here
      → count ≡ min left (length rest) → new ≡ old ++ take count rest → new ++ take (left - count) more ≡ old ++ take left (drop skip whole)
  read-step {count} old {rest = rest} whole_is within rest_is count_is new_is =
      cc (part-step here more skip left within, append_assoc old (take count rest) (take (left - count) more))

  pub read-enough : {count : ℕ} {rest : List X} → whole ≡ here ++ more → rest ≡ drop skip here → count ≡ min left (length rest)
      → skip + left ≤ length whole → 0 + (left - count) ≤ length more
  read-enough whole_is rest_is count_is enough =
      omega (arith, count_is, ap length rest_is, length-drop skip here, enough, ap length whole_is, length-append here more)
