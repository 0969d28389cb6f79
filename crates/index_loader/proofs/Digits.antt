-- Digits read one after another, and numbers that count as a limit from there on.
use Rattle.std.proofs.Common.{◌≡◌, ℕ, ◌+◌, ◌*◌, ◌≤◌, ◌<◌, min, List, length, map, get_or, slice_index_or, take, true, arith, refl, ◌∙◌, ⊎_elim, mul-le-mul}
use Rattle.std.proofs.lemmas.{Bool.cases_lt, Bool.lt-ltb, Int.Digits.digits_value_more, List.Folds.list_all_more, List.FromFn.get_or-map-range_with_len}
use Rattle.index_loader.proofs.Prelude.{digit_value, is_digit, list_all, range_with_len, digits_value}

-- one more digit after a number that was capped
capped-digit : (n base digit limit : ℕ) → 1 ≤ base → min (min (min n limit * base) limit + digit) limit ≡ min (n * base + digit) limit
capped-digit n base digit limit one =
    ⊎_elim
    (λ (below : n < limit). let e : min n limit ≡ n = omega arith in rw e (omega arith))
    (λ (above : limit ≤ n).
    let e : min n limit ≡ limit = omega arith in
    let f : limit * 1 ≤ limit * base = mul-le-mul (omega arith) one in
    let g : limit * 1 ≤ n * base = mul-le-mul above one in rw e (omega arith))
    (cases_lt n limit)

-- one more byte that is a digit
pub all-digits_more : (base : ℕ) (text : List ℕ) (i : ℕ) → i < length text → list_all (λ b. is_digit b base) (take i text) ≡ true
    → digit_value (get_or text i 0) < base → list_all (λ b. is_digit b base) (take (i + 1) text) ≡ true
all-digits_more base text i lt all small = list_all_more (λ b. is_digit b base) text i 0 lt ∙ rw all (lt-ltb _ _ small)

digit-small : (n digit base limit : ℕ) → base ≤ 16 → n ≤ limit → digit < base → n * base + digit ≤ limit * 16 + 15
digit-small n digit base limit small within below = let e : n * base ≤ limit * 16 = mul-le-mul within small in omega arith

-- the number of three digits, with room for one more
pub three-small : (a b c base : ℕ) → base ≤ 16 → a < base → b < base → c < base → ((a * base + b) * base + c) * base ≤ 0xFFF0
three-small a b c base small a-below b-below c-below =
    let two = digit-small a b base 15 small (omega arith) b-below in
    let three = digit-small (a * base + b) c base 0xFF small (omega arith) c-below in
    let four : ((a * base + b) * base + c) * base ≤ 0xFFF * 16 = mul-le-mul three small in omega arith

-- the first four bytes, where each is a digit
pub four-digits : (base : ℕ) (text : List ℕ) → 4 ≤ length text → digit_value (get_or text 0 0) < base
    → digit_value (get_or text 1 0) < base → digit_value (get_or text 2 0) < base → digit_value (get_or text 3 0) < base
    → list_all (λ b. is_digit b base) (take 4 text) ≡ true
four-digits base text long first second third fourth =
    let one = all-digits_more base text 0 (omega arith) refl first in
    let two = all-digits_more base text 1 (omega arith) one second in
    let three = all-digits_more base text 2 (omega arith) two third in
    all-digits_more base text 3 (omega arith) three fourth

-- the number with one more digit, if both count as the limit above it
pub capped-digits_more : (base : ℕ) (text : List ℕ) (i n product limit : ℕ) → 1 ≤ base → i < length text
    → n ≡ min (digits_value base (take i text)) limit → product ≡ min (n * base) limit
    → min (product + digit_value (get_or text i 0)) limit ≡ min (digits_value base (take (i + 1) text)) limit
capped-digits_more base text i n product limit one lt value by =
    rw (by, value, capped-digit (digits_value base (take i text)) base (digit_value (get_or text i 0)) limit one, digits_value_more base text i lt)

-- what a table of the values of a function holds
pub in-table : (f : ℕ → ℕ) (n : ℕ) (table : List ℕ) (i k d : ℕ) → table ≡ map f (range_with_len 0 n) → k ≡ i → i < n → slice_index_or table k d ≡ f i
in-table f n table i k d is place lt = rw (is, place) (get_or-map-range_with_len f 0 n i i d lt (omega arith))
