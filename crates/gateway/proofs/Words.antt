-- Words of a trace line.
use Rattle.std.proofs.Common.{◌≡◌, ℕ, zero, suc, ◌+◌, ◌<◌, ◌==◌, true, false, List, [], ◌∷◌, length, take, drop, slice_index, MatchOption, Option}
use Rattle.std.proofs.Common.{None, Some, Result, Ok, Err, inl, inr, refl, sym, ap, ◌∙◌, subst, arith, ◌≤◌, ◌&&◌, nat_le, le-leb, ◌^◌}
use Rattle.std.proofs.lemmas.{Bool.false_from_ne_true, Bool.Decides.eqb_tells, Fmt.decimal_injective, Fmt.parse-decimal, Fmt.IsAscii-decimal}
use Rattle.std.{proofs.lemmas.Slice.Eq.bytes_eq-Decides, proofs.lemmas.Str.IsUtf8-from_ascii, specs.Str.IsUtf8, specs.Str.Parse.ParsesUnsigned}
use Rattle.gateway.proofs.Prelude.{decimal, bytes_eq, before_space, after_space, number_below, number_in}
use Rattle.memchr.specs.Find.{IsFirstByte, is_byte}

no_space : (xs : List ℕ) → ((k : ℕ) → k < length xs → ¬ (slice_index xs k == 32 ≡ true)) → after_space xs ≡ None
no_space [] h = refl
no_space (b ∷ bs) h = rw (false_from_ne_true (b == 32) (h 0 (omega arith))) (no_space bs (λ k lt. h (suc k) (omega arith)))

at_space : (xs : List ℕ) (k : ℕ) → k < length xs → ((j : ℕ) → j < k → ¬ (slice_index xs j == 32 ≡ true)) → slice_index xs k == 32 ≡ true
    → (before_space xs ≡ take k xs) × (after_space xs ≡ Some (drop (k + 1) xs))
at_space [] k lt before at = absurd (omega arith)
at_space (b ∷ bs) zero lt before at = (rw at refl, rw at refl)
at_space (b ∷ bs) (suc k) lt before at =
    let first : (b == 32) ≡ false = false_from_ne_true (b == 32) (before 0 (omega arith)) in
    let later = at_space bs k (omega arith) (λ j small. before (suc j) (omega arith)) at in
    let further : suc k + 1 ≡ suc (k + 1) = omega arith in (rw first (ap (λ l. b ∷ l) later.0), rw (first, further) later.1)

pub first_space : (xs : List ℕ) (r : Option ℕ) → IsFirstByte (is_byte 32) xs r
    → MatchOption r (after_space xs ≡ None) (λ k. (k < length xs) × (before_space xs ≡ take k xs) × (after_space xs ≡ Some (drop (k + 1) xs)))
first_space xs None h = no_space xs (λ k lt. h k (omega arith) lt)
first_space xs (Some k) h =
    let found = at_space xs k h.0.high (λ j small. h.0.before j (omega arith) small) h.1 in (h.0.high, found.0, found.1)

-- ---- numbers

pub none_below : (n : ℕ) (word : List ℕ) → ((m : ℕ) → m < n → bytes_eq (decimal m) word ≡ false) → number_below n word ≡ None
none_below zero word h = refl
none_below (suc n) word h = rw (h n (omega arith)) (none_below n word (λ m lt. h m (omega arith)))

pub found_below : (n k : ℕ) (word : List ℕ) → n < k → k < 257 → bytes_eq (decimal n) word ≡ true → number_below k word ≡ Some n
found_below n zero word small most is = absurd (omega arith)
found_below n (suc k) word small most is = elim (eqb_tells k n) as (λ _. number_below (suc k) word ≡ Some n) [
  | inl same ↦ rw (same.1, is)
  | inr other ↦
      let no = false_from_ne_true (bytes_eq (decimal k) word) (λ here. other.1 (decimal_injective k n (omega arith) (omega arith)
      ((bytes_eq-Decides (decimal k) word).0 here ∙ sym ((bytes_eq-Decides (decimal n) word).0 is)))) in
      rw no (found_below n k word (omega (arith, other.1)) (omega arith) is)
]

pub no_number : (word : List ℕ) → ((m : ℕ) → m ≤ 255 → bytes_eq (decimal m) word ≡ false) → None ≡ number_in word
unfolding number_in
no_number word h = sym (none_below 256 word (λ m lt. h m (omega (arith, lt))))

pub this_number : (n : ℕ) (word : List ℕ) → n < 256 → bytes_eq (decimal n) word ≡ true → Some n ≡ number_in word
unfolding number_in
this_number n word small is = sym (found_below n 256 word small (omega arith) is)

-- ---- a number of `bits` bits that a word writes, where none is found in a word that writes none

module _ (bits limit : ℕ) (fits : limit < 2 ^ bits) (few : limit < 2 ^ 64) (found : List ℕ → Option ℕ)
    (none : (word : List ℕ) → ((n : ℕ) → n ≤ limit → bytes_eq (decimal n) word ≡ false) → None ≡ found word) (word : List ℕ) where
  pub no_text : ¬ IsUtf8 word → None ≡ found word
  no_text other =
      none word (λ n small.
      let ascii = IsUtf8-from_ascii (decimal n) (IsAscii-decimal n (omega (arith, small, few))) in
      false_from_ne_true _ (λ is. other (subst IsUtf8 ((bytes_eq-Decides (decimal n) word).0 is) ascii)))

  -- a word that a number is written as parses as that number
  parses : {E : Type 0} (r : Result ℕ E) (n : ℕ) → n ≤ limit → ParsesUnsigned bits 10 word r → bytes_eq (decimal n) word ≡ true → r ≡ Ok n
  parses r n small gives is =
      parse-decimal bits n word r (omega (arith, small, fits)) (omega (arith, small, few)) (sym ((bytes_eq-Decides (decimal n) word).0 is)) gives

  pub not_parsed : {E : Type 0} (e : E) → ParsesUnsigned bits 10 word (Err e) → None ≡ found word
  not_parsed e gives = none word (λ n small. false_from_ne_true _ (λ is. let never = parses (Err e) n small gives is in cc))

  -- a number that is parsed, and is another than the word writes, or too large
  pub other_parsed : {E : Type 0} (r : Result ℕ E) (n : ℕ) → r ≡ Ok n → ParsesUnsigned bits 10 word r
      → (bytes_eq (decimal n) word && nat_le n limit) ≡ false → None ≡ found word
  other_parsed {E} r n parsed gives different = none word (λ m small. false_from_ne_true _ (λ is.
      let both = sym parsed ∙ parses r m small gives is in
      let one : n ≡ m = cc in
      let never = rw (one, is, le-leb m limit small) at different in cc))
