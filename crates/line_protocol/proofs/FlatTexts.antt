-- Texts in quotes and numbers, at a place of a line.
use Rattle.std.proofs.Common.{◌≡◌, ℕ, suc, ◌+◌, ◌-◌, ◌^◌, ◌<◌, ◌≤◌, Bool, true, false, cond, ◌||◌, ◌==◌, List, [], ◌∷◌, ◌++◌, length, take, drop, get_or}
use Rattle.std.proofs.Common.{decimal, refl, sym, ap, ◌∙◌, subst, arith, append_assoc, take-append-drop, drop-drop, add-zero}
use Rattle.std.proofs.lemmas.Bool.{or_parts, not-true, eqb-false, ltb-false}
use Rattle.std.proofs.lemmas.{Fmt.decimal-digits_value, List.drop_more, List.get_or-drop, Str.Parse.numerals_by_value, Str.Parse.tells_digits}
use Rattle.std.specs.{Char.digit_value, List.prefix_len, Str.Parse.AllDigits, Str.Parse.digits_value}
use Rattle.json.{specs.Print.escape, specs.Print.quoted, specs.Run.is_plain, proofs.Printed.Strings.escape_byte_plain}

plain_byte : (p : Bool) (x n : ℕ) (xs : List ℕ) → p ≡ is_plain x → escape (take n xs) ≡ take n xs
    → escape (take (cond p (1 + n) 0) (x ∷ xs)) ≡ take (cond p (1 + n) 0) (x ∷ xs)
plain_byte false x n xs e ih = refl
plain_byte true x n xs e ih =
    let next : suc n ≡ 1 + n = omega arith in
    let none = or_parts ((x == 34) || (x == 92)) _ (not-true _ (sym e)) in
    let tests = or_parts (x == 34) _ none.0 in
    subst (λ k. escape (take k (x ∷ xs)) ≡ take k (x ∷ xs)) next
    (λ i. escape_byte_plain x (eqb-false x 34 tests.0) (eqb-false x 92 tests.1) (ltb-false x 32 none.1) i ++ ih i)

-- plain bytes are written unchanged
escape_plain : (xs : List ℕ) → escape (take (prefix_len is_plain xs) xs) ≡ take (prefix_len is_plain xs) xs
escape_plain [] = refl
escape_plain (x ∷ xs) = plain_byte (is_plain x) x (prefix_len is_plain xs) xs refl (escape_plain xs)

-- a byte, and what follows it
pub byte_here : (d : List ℕ) (i x : ℕ) → i < length d → get_or d i 0 ≡ x → drop i d ≡ x ∷ drop (i + 1) d
byte_here d i x within is = drop_more d i 0 within ∙ ap (λ y. y ∷ drop (i + 1) d) is

-- a text in quotes
pub quoted_here : (d : List ℕ) (i stop : ℕ) → i < length d → get_or d i 0 ≡ 34 → stop ≡ i + 1 + prefix_len is_plain (drop (i + 1) d)
    → stop < length d → get_or d stop 0 ≡ 34 → drop i d ≡ quoted (take (stop - (i + 1)) (drop (i + 1) d)) ++ drop (stop + 1) d
quoted_here d i stop within opened is inside closed =
    let all = drop (i + 1) d in
    let s = take (stop - (i + 1)) all in
    let count : prefix_len is_plain all ≡ stop - (i + 1) = omega arith in
    let same : escape s ≡ s = ap (λ k. escape (take k all)) (sym count) ∙ escape_plain all ∙ ap (λ k. take k all) count in
    let there : i + 1 + (stop - (i + 1)) ≡ stop = omega arith in
    let behind : drop (stop - (i + 1)) all ≡ 34 ∷ drop (stop + 1) d = drop-drop _ (i + 1) d ∙ ap (λ k. drop k d) there
    ∙ byte_here d stop 34 inside closed in
    let parts : all ≡ s ++ 34 ∷ drop (stop + 1) d = sym (take-append-drop (stop - (i + 1)) all) ∙ ap (λ l. s ++ l) behind in
    byte_here d i 34 within opened
    ∙ ap (λ l. 34 ∷ l) (parts ∙ ap (λ t. t ++ 34 ∷ drop (stop + 1) d) (sym same) ∙ sym (append_assoc (escape s) (34 ∷ []) (drop (stop + 1) d)))

-- digits with no zero in front, or just a zero, are what their value is written as
pub decimal_here : (d ds : List ℕ) (i stop n : ℕ) → AllDigits 10 ds → n ≡ digits_value 10 ds → drop i d ≡ ds ++ drop stop d → 0 < length ds
    → (get_or ds 0 0 ≡ 48 → length ds ≡ 1) → n < 2 ^ 64 → drop i d ≡ decimal n ++ drop stop d
decimal_here d ds i stop n digits value parts some lead small =
    let written = decimal-digits_value (numerals_by_value _ tells_digits) ds digits some lead (omega (arith, value, small)) in
    parts ∙ ap (λ l. l ++ drop stop d) (sym written ∙ ap decimal (sym value))

pub digit_here : (x : ℕ) → 48 ≤ x → x ≤ 57 → digit_value x ≡ x - 48
digit_here x low high = grind arith

-- the first digit is the byte there
pub first_digit : (d ds rest : List ℕ) (i : ℕ) → drop i d ≡ ds ++ rest → 0 < length ds → get_or ds 0 0 ≡ get_or d i 0
first_digit d [] rest i is some = absurd (omega arith)
first_digit d (x ∷ ds) rest i is some = sym (ap (λ j. get_or d j 0) (sym (add-zero i)) ∙ sym (get_or-drop i d 0 0) ∙ ap (λ xs. get_or xs 0 0) is)
