-- Fields of digits alone.
use Rattle.std.proofs.Common.{◌≡◌, Bor, ℕ, zero, suc, ◌+◌, ◌*◌, ◌/◌, ◌%◌, ap, append_assoc, length-append, option_copied, ◌≤◌, ◌<◌, ◌==◌, true, false, List, []}
use Rattle.std.proofs.Common.{◌∷◌, ◌++◌, All, length, reverse, take, drop, get_or, Option, Some, None, arith, refl, sym, ◌∙◌}
use Rattle.std.{proofs.Math.Seq.take-length, specs.Int.from_le_bytes, specs.Int.to_le_bytes, specs.Int.w32}
use Rattle.std.proofs.lemmas.Bool.{eqb-true, le-ltb, lt-ltb, ne_eqb, false_from_ne_true, true_from_ne_false, Decides.nat_tests}
use Rattle.std.proofs.lemmas.{Nat.le_bytes_4, Int.Digits.digits_value_push, List.drop_more, List.length-take-le, List.reverse-reverse, List.take-append-drop}
use Rattle.std.proofs.lemmas.List.{Elements.All-cons, Elements.All-from_get_or, Folds.list_all-append, Folds.list_all_at}
use Rattle.std.proofs.lemmas.List.{Splits.slice_split_at, Splits.slice_split_none, Sorted.All-permutation, Sorted.IsPermutation-reverse}
use Rattle.index_loader.proofs.Prelude.{digit_value, is_digit, list_all, onto_first, digits_value, IndexKind, behind_spaces, code_point_in, fields_of}
use Rattle.index_loader.proofs.Prelude.{number_in, pair_in, pair_with, stripped, IsNumberFirst, IsPointerFirst, IsTens, as_scalar, parts_behind}

-- bytes that are none of these
abbrev AreOther : ℕ → List ℕ → Type 0
AreOther other xs = All (λ b. (b == other) ≡ false) xs

-- digits aren't bytes that aren't digits
pub digits-other : (base other : ℕ) (xs : List ℕ) → base ≤ 16 → digit_value other ≡ 36 → list_all (λ b. is_digit b base) xs ≡ true → AreOther other xs
digits-other base other xs small none all = All-from_get_or (λ b. (b == other) ≡ false) xs 0 (λ j lt.
    false_from_ne_true (get_or xs j 0 == other) (λ same.
    let no : is_digit (get_or xs j 0) base ≡ false = rw (eqb-true _ other same, none) (le-ltb _ _ (omega arith)) in
    let some = list_all_at (λ b. is_digit b base) xs j 0 lt no in absurd (cc)))

no-front : (xs : List ℕ) → AreOther 0x20 xs → behind_spaces xs ≡ xs
no-front [] all = refl
no-front (x ∷ xs) all = let e : (x == 0x20) ≡ false = all 0 0 (omega arith) in rw e refl

-- if there is no space, none is stripped
pub stripped-same : (xs : List ℕ) → AreOther 0x20 xs → stripped xs ≡ xs
stripped-same xs all =
    rw (no-front xs all, no-front (reverse xs) (All-permutation (λ b. (b == 0x20) ≡ false) _ _ (IsPermutation-reverse xs) all)) (reverse-reverse xs)

-- the number of some digits
numeral-of : (base : ℕ) (xs : List ℕ) → 0 < length xs → list_all (λ b. is_digit b base) xs ≡ true → number_in base xs ≡ Some (digits_value base xs)
numeral-of base xs some all = rw (ne_eqb (length xs) 0 (omega arith), all) refl

-- a text with a number is one of digits
pub digits-of : (base : ℕ) (xs : List ℕ) (n : ℕ) → number_in base xs ≡ Some n → list_all (λ b. is_digit b base) xs ≡ true
digits-of base [] n is = refl
digits-of base (x ∷ xs) n is =
    true_from_ne_false _ (λ no. let e : number_in base (x ∷ xs) ≡ None = rw (ne_eqb (length (x ∷ xs)) 0 (omega arith), no) refl in absurd (cc))

-- digits alone are one field
pub fields-alone : (base : ℕ) (text : List ℕ) → base ≤ 16 → list_all (λ b. is_digit b base) text ≡ true → fields_of text ≡ text ∷ []
fields-alone base text small all = slice_split_none (λ b. b == 0x09) text (digits-other base 0x09 text small refl all)

-- and digits up to a TAB the first
fields-before : (base : ℕ) (text : List ℕ) (m : ℕ) → base ≤ 16 → m < length text → get_or text m 0 ≡ 0x09
    → list_all (λ b. is_digit b base) (take m text) ≡ true → fields_of text ≡ take m text ∷ fields_of (drop (m + 1) text)
fields-before base text m small within tab all =
    let cut : drop m text ≡ 0x09 ∷ drop (m + 1) text = drop_more text m 0 within ∙ ap (λ (b : ℕ). b ∷ drop (m + 1) text) tab in
    ap fields_of (sym (take-append-drop m text) ∙ ap (λ (bs : List ℕ). take m text ++ bs) cut)
    ∙ slice_split_at (λ b. b == 0x09) (take m text) 0x09 (drop (m + 1) text) (digits-other base 0x09 (take m text) small refl all) refl

-- digits up to the end of the text
pub number-alone : (base : ℕ) (text : List ℕ) (m n : ℕ) → base ≤ 16 → 0 < m → m ≡ length text
    → list_all (λ b. is_digit b base) (take m text) ≡ true → n ≡ digits_value base (take m text) → IsNumberFirst base (fields_of text) n []
number-alone base text m n small some is all value =
    let e : take m text ≡ text = rw is (take-length text) in
    let all = rw e at all in
    record { digits = text; first = fields-alone base text small all; numeral = rw (value, e) (numeral-of base text (omega arith) all) }

-- digits up to a TAB
pub number-before : (base : ℕ) (text : List ℕ) (m n : ℕ) → base ≤ 16 → 0 < m → m < length text → get_or text m 0 ≡ 0x09
    → list_all (λ b. is_digit b base) (take m text) ≡ true → n ≡ digits_value base (take m text)
    → IsNumberFirst base (fields_of text) n (fields_of (drop (m + 1) text))
number-before base text m n small some within tab all value = record {
  digits = take m text;
  first = fields-before base text m small within tab all;
  numeral = let l : length (take m text) ≡ m = length-take-le m text (omega arith) in rw value (numeral-of base (take m text) (omega arith) all);
}

onto-space : (kind : IndexKind) (fields : List (List ℕ)) → pair_in kind (onto_first 0x20 fields) ≡ pair_in kind fields
onto-space kind [] = refl
onto-space kind (field ∷ fields) = refl

-- spaces before a line don't count
pub behind-spaces_same : (kind : IndexKind) (text : List ℕ) → pair_in kind (fields_of text) ≡ pair_in kind (fields_of (behind_spaces text))
behind-spaces_same kind [] = refl
behind-spaces_same kind (b ∷ bs) = grind (arith, nat_tests, onto-space kind (fields_of bs), behind-spaces_same kind bs)

-- the fields after a TAB that is there
pub number-with : (base : ℕ) (fields : List (List ℕ)) (n : ℕ) (behind : Option (Bor (List ℕ))) (b : Bor (List ℕ)) → behind ≡ Some b
    → IsNumberFirst base fields n (parts_behind 0x09 (option_copied behind)) → IsNumberFirst base fields n (fields_of b.now)
number-with base fields n behind b is first = rw is at first

-- a code point in digits after `0x`
pub code_point-plain : (others : List (List ℕ)) (digits : List ℕ) (n c : ℕ) → number_in 16 digits ≡ Some n → as_scalar n ≡ Some c
    → code_point_in ((0x30 ∷ 0x78 ∷ digits) ∷ others) ≡ Some c
code_point-plain others digits n c numeral scalar =
    let same = stripped-same (0x30 ∷ 0x78 ∷ digits)
    (All-cons (λ b. (b == 0x20) ≡ false) 0x30 (0x78 ∷ digits) refl
    (All-cons (λ b. (b == 0x20) ≡ false) 0x78 digits refl (digits-other 16 0x20 digits (omega arith) refl (digits-of 16 digits n numeral)))) in
    rw (same, numeral) scalar

-- the pair of a line of such fields
pub pair-plain : (kind : IndexKind) (text behind digits : List ℕ) (p n c : ℕ) (others : List (List ℕ))
    → IsNumberFirst 10 (fields_of text) p (fields_of behind) → behind ≡ 0x30 ∷ 0x78 ∷ digits → IsNumberFirst 16 (fields_of digits) n others
    → as_scalar n ≡ Some c → pair_in kind (fields_of text) ≡ pair_with kind p (Some c)
pair-plain kind text behind digits p n c others pointer prefix number scalar =
    let same = stripped-same pointer.digits (digits-other 10 0x20 pointer.digits (omega arith) refl (digits-of 10 pointer.digits p pointer.numeral)) in
    rw (pointer.first, same, pointer.numeral, prefix, number.first, code_point-plain others number.digits n c number.numeral scalar)

-- spaces at the front of some places, followed by a byte that isn't a space
spaces-before : (places : List ℕ) (b : ℕ) (rest : List ℕ) → (b == 0x20) ≡ false → behind_spaces (places ++ b ∷ rest) ≡ behind_spaces places ++ b ∷ rest
spaces-before [] b rest other = rw other refl
spaces-before (x ∷ xs) b rest other = grind (arith, spaces-before xs b rest other)

-- places, a last digit and a TAB
pub tens-and-last : (places : List ℕ) (last number : ℕ) (rest : List ℕ) → IsTens places number → digit_value last < 10
    → IsNumberFirst 10 (fields_of (behind_spaces (places ++ last ∷ 0x09 ∷ rest))) (number + digit_value last) (fields_of rest)
tens-and-last places last number rest tens small =
    let front = behind_spaces places in
    let one : list_all (λ b. is_digit b 10) (last ∷ []) ≡ true = rw (lt-ltb (digit_value last) 10 small) refl in
    let all : list_all (λ b. is_digit b 10) (front ++ last ∷ []) ≡ true = rw (list_all-append, tens.digits, one) in
    let cut = spaces-before places last (0x09 ∷ rest) (digits-other 10 0x20 (last ∷ []) (omega arith) refl one 0 0 (omega arith))
    ∙ sym (append_assoc front (last ∷ []) (0x09 ∷ rest)) in
    record {
      digits = front ++ last ∷ [];
      first = ap fields_of cut
          ∙ slice_split_at (λ b. b == 0x09) (front ++ last ∷ []) 0x09 rest (digits-other 10 0x09 (front ++ last ∷ []) (omega arith) refl all) refl;
      numeral = numeral-of 10 (front ++ last ∷ []) (omega (arith, length-append front (last ∷ []))) all
          ∙ rw (digits_value_push, ← tens.value);
    }

-- each of four bytes
four-below : (a b c d : ℕ) → a < 256 → b < 256 → c < 256 → d < 256 → (i : ℕ) → get_or (a ∷ b ∷ c ∷ d ∷ []) i 0 < 256
four-below a b c d one two three four zero = one
four-below a b c d one two three four (suc zero) = two
four-below a b c d one two three four (suc (suc zero)) = three
four-below a b c d one two three four (suc (suc (suc zero))) = four
four-below a b c d one two three four (suc (suc (suc (suc i)))) = omega arith

-- the first eight of a text, one by one
eight-front : (text : List ℕ) → 8 ≤ length text → text ≡ get_or text 0 0 ∷ get_or text 1 0 ∷ get_or text 2 0 ∷ get_or text 3 0
    ∷ get_or text 4 0 ∷ get_or text 5 0 ∷ get_or text 6 0 ∷ get_or text 7 0 ∷ drop 8 text
eight-front (a ∷ b ∷ c ∷ d ∷ e ∷ f ∷ g ∷ h ∷ rest) long = refl
eight-front text long = absurd (omega arith)

-- the bytes of a digit, a TAB and `0x`, as one number
pub bytes-of_last : (word digit : ℕ) → word ≡ 0x7830_0930 + digit → digit < 10 → to_le_bytes w32 word ≡ (0x30 + digit) ∷ 0x09 ∷ 0x30 ∷ 0x78 ∷ []
bytes-of_last word digit is small =
    let one : word % 256 ≡ 0x30 + digit = omega (arith, is, small) in
    let two : word / 256 % 256 ≡ 0x09 = omega (arith, is, small) in
    let three : word / 65536 % 256 ≡ 0x30 = omega (arith, is, small) in
    let four : word / 16777216 % 256 ≡ 0x78 = omega (arith, is, small) in
    rw (one, two, three, four) refl

-- the value of a decimal digit
decimal-value : (digit : ℕ) → digit < 10 → digit_value (0x30 + digit) ≡ digit
decimal-value digit small = rw (le-ltb (0x30 + digit) 48 (omega arith), lt-ltb (0x30 + digit) 58 (omega arith)) (omega arith)

-- four places read as a number, and after them a digit, a TAB and `0x` as another
pub pointer-of_five : (text : List ℕ) (places number word last : ℕ) → 8 ≤ length text → ((i : ℕ) → i < 8 → get_or text i 0 < 256)
    → places ≡ from_le_bytes w32 (get_or text 0 0 ∷ get_or text 1 0 ∷ get_or text 2 0 ∷ get_or text 3 0 ∷ []) → IsTens (to_le_bytes w32 places) number
    → word ≡ from_le_bytes w32 (get_or text 4 0 ∷ get_or text 5 0 ∷ get_or text 6 0 ∷ get_or text 7 0 ∷ [])
    → to_le_bytes w32 word ≡ (0x30 + last) ∷ 0x09 ∷ 0x30 ∷ 0x78 ∷ [] → last < 10
    → IsPointerFirst (behind_spaces text) (number + last) (drop 8 text)
pointer-of_five text places number word last long small places_is tens word_is behind_is low =
    let front = get_or text 0 0 ∷ get_or text 1 0 ∷ get_or text 2 0 ∷ get_or text 3 0 ∷ [] in
    let next = get_or text 4 0 ∷ get_or text 5 0 ∷ get_or text 6 0 ∷ get_or text 7 0 ∷ [] in
    let behind = 0x30 ∷ 0x78 ∷ drop 8 text in
    let tens' : IsTens front number =
    rw (le_bytes_4 front places refl (four-below _ _ _ _ (small 0 (omega arith)) (small 1 (omega arith)) (small 2 (omega arith))
    (small 3 (omega arith))) places_is) at tens in
    let same : next ≡ (0x30 + last) ∷ 0x09 ∷ 0x30 ∷ 0x78 ∷ [] =
    sym (le_bytes_4 next word refl (four-below _ _ _ _ (small 4 (omega arith)) (small 5 (omega arith)) (small 6 (omega arith))
    (small 7 (omega arith))) word_is) ∙ behind_is in
    let cut : text ≡ front ++ (0x30 + last) ∷ 0x09 ∷ behind = eight-front text long ∙ ap (λ (bs : List ℕ). front ++ (bs ++ drop 8 text)) same in
    let value = decimal-value last low in
    record {
      behind = behind;
      prefix = refl;
      first = rw cut (rw value at (tens-and-last front (0x30 + last) number behind tens' (omega (arith, value, low))));
    }

-- places that are spaces and then digits
pub tens-of : (places digits : List ℕ) (number len : ℕ) → digits ≡ behind_spaces places → len ≡ length digits
    → list_all (λ b. is_digit b 10) (take len digits) ≡ true → number ≡ digits_value 10 (take len digits) → number < 10000 → IsTens places (number * 10)
tens-of places digits number len is whole all value small =
    let e : take len digits ≡ behind_spaces places = rw whole (take-length digits) ∙ is in
    record { digits = rw e at all; value = ap (λ n. n * 10) (rw e at value); small = omega arith }
