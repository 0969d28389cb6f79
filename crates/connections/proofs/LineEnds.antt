-- The first line feed of a list of bytes.
use Rattle.std.proofs.Common.{◌≡◌, ℕ, zero, suc, ◌<◌, ◌==◌, true, false, List, [], ◌∷◌, length, take}
use Rattle.std.proofs.Common.{slice_index, MatchOption, Option, None, Some, refl, ap, arith}
use Rattle.connections.proofs.Prelude.{false_from_ne_true, has_end, before_end}
use Rattle.memchr.specs.Find.{IsFirstByte, is_byte}

no_end : (xs : List ℕ) → ((k : ℕ) → k < length xs → ¬ (slice_index xs k == 10 ≡ true)) → has_end xs ≡ false
no_end [] h = refl
no_end (b ∷ bs) h =
    let first : (b == 10) ≡ false = false_from_ne_true (b == 10) (h 0 (omega arith)) in
    rw first (no_end bs (λ k lt. h (suc k) (omega arith)))

first_end : (xs : List ℕ) (k : ℕ) → k < length xs → ((j : ℕ) → j < k → ¬ (slice_index xs j == 10 ≡ true)) → slice_index xs k == 10 ≡ true
    → (has_end xs ≡ true) × (before_end xs ≡ take k xs)
first_end [] k lt before at = absurd (omega arith)
first_end (b ∷ bs) zero lt before at = (rw at refl, rw at refl)
first_end (b ∷ bs) (suc k) lt before at =
    let first : (b == 10) ≡ false = false_from_ne_true (b == 10) (before 0 (omega arith)) in
    let later = first_end bs k (omega arith) (λ j small. before (suc j) (omega arith)) at in
    (rw first later.0, rw first (ap (λ l. b ∷ l) later.1))

pub first_line_end : (xs : List ℕ) (r : Option ℕ) → IsFirstByte (is_byte 10) xs r
    → MatchOption r (has_end xs ≡ false) (λ k. (has_end xs ≡ true) × (k < length xs) × (before_end xs ≡ take k xs))
first_line_end xs None h = no_end xs (λ k lt. h k (omega arith) lt)
first_line_end xs (Some k) h =
    let found = first_end xs k h.0.high (λ j small. h.0.before j (omega arith) small) h.1 in
    (found.0, h.0.high, found.1)
