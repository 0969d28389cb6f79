-- The first place of a text that passes a test, and the text cut there.
use Rattle.std.proofs.Common.{◌≡◌, ℕ, ◌+◌, ◌==◌, ◌≤◌, ◌<◌, Bool, List, [], ◌∷◌, length, take, drop, Option, Some, None, position, refl, arith}
use Rattle.std.proofs.lemmas.Bool.{false_from_ne_true, lt-ltb, le-ltb, Decides.nat_tests}
use Rattle.std.proofs.lemmas.List.{Splits.slice_split_first, Splits.slice_split_none, Sums.fails_before_first, Sums.position_or_len_is}
use Rattle.std.specs.List.{position_or_len, slice_split}
use Rattle.memchr.specs.Find.{IsFirstByte, is_byte}

-- what a search for a byte answers
pub place-of_byte : (byte : ℕ) (text : List ℕ) (r : Option ℕ) → IsFirstByte (is_byte byte) text r → r ≡ position (λ b. b == byte) text
place-of_byte byte text None h =
    let e = position_or_len_is (λ b. b == byte) text (length text) 0 (omega arith) (λ k lt. false_from_ne_true _ (h k (omega arith) lt))
    (λ lt. absurd (omega arith)) in
    rw (e, le-ltb (length text) (length text) (omega arith)) refl
place-of_byte byte text (Some k) h =
    let within = h.0.high in
    let e = position_or_len_is (λ b. b == byte) text k 0 (omega arith) (λ j lt. false_from_ne_true _ (h.0.before j (omega arith) lt)) (λ lt. h.1) in
    rw (e, lt-ltb _ _ within) refl

-- what `position` says of the parts
pub parts-none : {X : Type 0} (p : X → Bool) (xs : List X) → None ≡ position p xs → slice_split p xs ≡ xs ∷ []
parts-none p xs none =
    let past : length xs ≤ position_or_len p xs = grind (arith, nat_tests) in
    slice_split_none p xs (λ k d lt. fails_before_first p xs k d (omega arith))

-- the same if there is one
pub parts-some : {X : Type 0} (p : X → Bool) (xs : List X) (i : ℕ) (d : X) → Some i ≡ position p xs
    → slice_split p xs ≡ take i xs ∷ slice_split p (drop (i + 1) xs)
parts-some p xs i d some =
    let below : position_or_len p xs < length xs = grind (arith, nat_tests) in
    let same : i ≡ position_or_len p xs = grind (arith, nat_tests) in rw same (slice_split_first p xs d below)
