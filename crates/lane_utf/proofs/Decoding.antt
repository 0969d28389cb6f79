-- The code point at the front of a text's bytes, and ASCII blocks there.
use Rattle.std.proofs.Common.{◌≡◌, refl, sym, ap, subst, ◌∙◌, ℕ, suc, ◌+◌, ◌*◌, ◌%◌, ◌<◌, ◌≤◌, true, cond, nat_lt, List, [], ◌∷◌, ◌++◌, length, take, drop}
use Rattle.std.proofs.Common.{get_or, append_assoc, length-append, drop_at, ltb-true, ltb-false, get_or-drop, length-drop, take-append-drop, inl, inr, arith}
use Rattle.std.proofs.{Common.chars, Common.IsUtf8, Common.IsAscii, lemmas.Bool.and_parts, lemmas.Bool.Decides.nat_tests}
use Rattle.std.proofs.Math.Utf8.{encode, encodes, scalar, scalars, scalar_cases}
use Rattle.std.proofs.lemmas.Str.{encode_ascii, chars_past_char, chars-append, chars-IsAscii, IsUtf8-drop, IsUtf8-from_ascii, IsCharBoundary-from_take}
use Rattle.lane_utf.specs.{Next.IsUtf8Front, Utf16.utf16_form, Utf16.utf16_forms, Widths.total_width, Widths.utf16_width}
use Rattle.lane_utf.proofs.Putting.{encode_two, encode_three, encode_four, form_low}
use Rattle.lemmas.proofs.Bools.{by_test}

-- how many bytes a code point takes by the first of them, and which it is by all
abbrev width_by : ℕ → ℕ
width_by a = cond (nat_lt a 128) 1 (cond (nat_lt a 224) 2 (cond (nat_lt a 240) 3 4))

abbrev value_by : ℕ → ℕ → ℕ → ℕ → ℕ
value_by a b c d =
    cond (nat_lt a 128) a (cond (nat_lt a 224) (a % 32 * 64 + b % 64)
    (cond (nat_lt a 240) (a % 16 * 4096 + b % 64 * 64 + c % 64) (a % 8 * 262144 + b % 64 * 4096 + c % 64 * 64 + d % 64)))

abbrev IsRead : List ℕ → Type 0
IsRead bytes = IsUtf8Front bytes (value_by (get_or bytes 0 0) (get_or bytes 1 0) (get_or bytes 2 0) (get_or bytes 3 0)) (width_by (get_or bytes 0 0))

read_as : (c : ℕ) (rest ys : List ℕ) → scalar c ≡ true → IsUtf8 rest → chars (encode c ++ rest) ≡ c ∷ chars rest → encode c ≡ ys → 1 ≤ length ys
    → value_by (get_or (ys ++ rest) 0 0) (get_or (ys ++ rest) 1 0) (get_or (ys ++ rest) 2 0) (get_or (ys ++ rest) 3 0) ≡ c
    → width_by (get_or (ys ++ rest) 0 0) ≡ length ys → IsRead (encode c ++ rest)
read_as c rest ys s u first e some value width =
    let behind = drop_at ys rest (length ys) refl in
    let within : length ys ≤ length (ys ++ rest) = omega (arith, length-append ys rest) in
    rw (e, value, width) (record { scalar = s; some = some; within = within; first = rw behind (rw e at first); text = rw behind u })

read_char : (c : ℕ) (rest : List ℕ) → scalar c ≡ true → IsUtf8 rest → chars (encode c ++ rest) ≡ c ∷ chars rest → IsRead (encode c ++ rest)
read_char c rest s u first =
    by_test (nat_lt c 128) (λ t. read_as c rest _ s u first (encode_ascii c (ltb-true c 128 t)) (omega arith) (grind (arith, nat_tests))
    (grind (arith, nat_tests)))
    (λ t. by_test (nat_lt c 2048)
    (λ v. read_as c rest _ s u first (encode_two c (ltb-false c 128 t) (ltb-true c 2048 v)) (omega arith) (grind (arith, nat_tests)) (grind (arith, nat_tests)))
    (λ v. by_test (nat_lt c 65536)
    (λ w. read_as c rest _ s u first (encode_three c (ltb-false c 2048 v) (ltb-true c 65536 w)) (omega arith) (grind (arith, nat_tests))
    (grind (arith, nat_tests)))
    (λ w. let high : c < 1114112 = elim (scalar_cases c s) [ inl l ↦ omega (arith, l) | inr l ↦ l.1 ] in
    read_as c rest _ s u first (encode_four c (ltb-false c 65536 w)) (omega arith) (grind (arith, nat_tests)) (grind (arith, nat_tests)))))

read : (bytes : List ℕ) → IsUtf8 bytes → 0 < length bytes → IsRead bytes
read bytes (cs, (s, e)) h = go cs s e
  where
    go : (cs : List ℕ) → scalars cs ≡ true → encodes cs ≡ bytes → IsRead bytes
    go [] s e = absurd (omega (arith, ap length e, h))
    go (c ∷ ds) s e =
        let parts = and_parts (scalar c) (scalars ds) s in
        subst IsRead e (read_char c (encodes ds) parts.0 (ds, (parts.1, refl)) (chars_past_char _ (encodes ds) c (c ∷ ds, (s, refl)) refl))

-- the units of a list in parts
pub forms-append : (cs ds : List ℕ) → utf16_forms (cs ++ ds) ≡ utf16_forms cs ++ utf16_forms ds
forms-append [] ds = refl
forms-append (c ∷ cs) ds = ap (λ k. utf16_form c ++ k) (forms-append cs ds) ∙ sym (append_assoc (utf16_form c) (utf16_forms cs) (utf16_forms ds))

pub forms-ascii : (bs : List ℕ) → IsAscii bs → utf16_forms bs ≡ bs
forms-ascii [] a = refl
forms-ascii (b ∷ bs) a = ap (λ k. k ++ utf16_forms bs) (form_low b (omega (arith, a 0))) ∙ ap (λ k. b ∷ k) (forms-ascii bs (λ i. a (suc i)))

pub form-width : (c : ℕ) → length (utf16_form c) ≡ utf16_width c
form-width c = grind (arith, nat_tests)

pub forms-width : (cs : List ℕ) → length (utf16_forms cs) ≡ total_width utf16_width cs
forms-width [] = refl
forms-width (c ∷ cs) = omega (arith, length-append (utf16_form c) (utf16_forms cs), form-width c, forms-width cs)

-- n ASCII bytes at the front are themselves
pub ascii-text : (bytes : List ℕ) (n : ℕ) → IsUtf8 bytes → n ≤ length bytes → IsAscii (take n bytes) → IsUtf8 (drop n bytes)
ascii-text bytes n u h a = IsUtf8-drop bytes n u (IsCharBoundary-from_take bytes n u h (IsUtf8-from_ascii (take n bytes) a))

pub ascii-forms : (bytes : List ℕ) (n : ℕ) → IsAscii (take n bytes) → utf16_forms (chars bytes) ≡ take n bytes ++ utf16_forms (chars (drop n bytes))
ascii-forms bytes n a =
    let front = take n bytes in
    ap (λ k. utf16_forms (chars k)) (sym (take-append-drop n bytes))
    ∙ ap utf16_forms (chars-append front (drop n bytes) (IsUtf8-from_ascii front a))
    ∙ forms-append (chars front) (chars (drop n bytes))
    ∙ ap (λ k. k ++ utf16_forms (chars (drop n bytes))) (ap utf16_forms (chars-IsAscii front a) ∙ forms-ascii front a)

-- The same at an index.
module _ (bytes : List ℕ) (at : ℕ) (u : IsUtf8 (drop at bytes)) (h : at < length bytes) where
  read_at : (a b c d v n : ℕ) → a ≡ get_or (drop at bytes) 0 0 → b ≡ get_or (drop at bytes) 1 0 → c ≡ get_or (drop at bytes) 2 0
      → d ≡ get_or (drop at bytes) 3 0 → value_by a b c d ≡ v → width_by a ≡ n → IsUtf8Front (drop at bytes) v n
  read_at a b c d v n p q r s value width = rw (← value, ← width, p, q, r, s) (read (drop at bytes) u (omega (arith, h, length-drop at bytes)))

  here : (k b : ℕ) → b ≡ get_or bytes (at + k) 0 → b ≡ get_or (drop at bytes) k 0
  here k b e = e ∙ sym (get_or-drop at bytes k 0)

  first_here : (a : ℕ) → a ≡ get_or bytes at 0 → a ≡ get_or (drop at bytes) 0 0
  first_here a e = let same : at ≡ at + 0 = omega arith in here 0 a (e ∙ ap (λ k. get_or bytes k 0) same)

  pub one_at : (a : ℕ) → a ≡ get_or bytes at 0 → a < 128 → IsUtf8Front (drop at bytes) a 1
  one_at a is low = read_at a _ _ _ a 1 (first_here a is) refl refl refl (grind (arith, nat_tests)) (grind (arith, nat_tests))

  pub two_at : (a b : ℕ) → a ≡ get_or bytes at 0 → b ≡ get_or bytes (at + 1) 0 → 128 ≤ a → a < 224 → IsUtf8Front (drop at bytes) (a % 32 * 64 + b % 64) 2
  two_at a b is second low high = read_at a b _ _ _ 2 (first_here a is) (here 1 b second) refl refl (grind (arith, nat_tests)) (grind (arith, nat_tests))

  pub three_at : (a b c : ℕ) → a ≡ get_or bytes at 0 → b ≡ get_or bytes (at + 1) 0 → c ≡ get_or bytes (at + 2) 0 → 224 ≤ a → a < 240
      → IsUtf8Front (drop at bytes) (a % 16 * 4096 + b % 64 * 64 + c % 64) 3
  three_at a b c is second third low high =
      read_at a b c _ _ 3 (first_here a is) (here 1 b second) (here 2 c third) refl (grind (arith, nat_tests)) (grind (arith, nat_tests))

  pub four_at : (a b c d : ℕ) → a ≡ get_or bytes at 0 → b ≡ get_or bytes (at + 1) 0 → c ≡ get_or bytes (at + 2) 0 → d ≡ get_or bytes (at + 3) 0
      → 240 ≤ a → IsUtf8Front (drop at bytes) (a % 8 * 262144 + b % 64 * 4096 + c % 64 * 64 + d % 64) 4
  four_at a b c d is second third fourth low =
      read_at a b c d _ 4 (first_here a is) (here 1 b second) (here 2 c third) (here 3 d fourth) (grind (arith, nat_tests)) (grind (arith, nat_tests))

  -- the bytes of a form that begins with `a` exist
  pub there : (a : ℕ) → a ≡ get_or bytes at 0 → (128 ≤ a → at + 1 < length bytes) × (224 ≤ a → at + 2 < length bytes) × (240 ≤ a → at + 3 < length bytes)
  there a is =
      let within : at + width_by a ≤ length bytes =
      omega (arith, h, length-drop at bytes, (read_at a _ _ _ _ _ (first_here a is) refl refl refl refl refl).within) in
      (λ low. grind (arith, nat_tests, within), λ low. grind (arith, nat_tests, within), λ low. grind (arith, nat_tests, within))
