-- Marks of a text's bytes are those of its code points.
use Rattle.std.proofs.Common.{◌≡◌, refl, sym, ap, ◌∙◌, ℕ, suc, ◌+◌, ◌<◌, ◌≤◌, inl, inr, Bool, false, ◌==◌, List}
use Rattle.std.proofs.Common.{[], ◌∷◌, ◌++◌, length, get_or, arith, ◌-◌, Some, None, slice_get}
use Rattle.std.proofs.Math.Utf8.{encode, encodes}
use Rattle.std.proofs.lemmas.Str.{encode_ascii, encodes-chars, length-encode, len_utf8_bounds}
use Rattle.lemmas.proofs.{Recursion.counts-append, Recursion.walk-append, Texts.high_bytes, Texts.high_other}
use Rattle.state_memo.proofs.Prelude.{chars, IsUtf8, cases_lt, nat_tests, begins_lf, slice_get-get_or, cr, lf, is_mark, one_if, marks, ends_cr}

high_mark : (f : Bool) (x : ℕ) → 128 ≤ x → is_mark f x ≡ false
high_mark f x h = grind (arith, nat_tests)

high_marks : (f : Bool) (bs : List ℕ) → ((k : ℕ) → k < length bs → 128 ≤ get_or bs k 0) → marks f bs ≡ 0
high_marks f [] h = refl
high_marks f (x ∷ xs) h =
    let zero_ : 0 < length (x ∷ xs) = omega arith in
    omega (arith, ap one_if (high_mark f x (h 0 zero_)), high_marks (x == cr) xs (λ k l. h (suc k) (omega arith)))

high_ends : (f : Bool) (bs : List ℕ) → ((k : ℕ) → k < length bs → 128 ≤ get_or bs k 0) → 0 < length bs → ends_cr f bs ≡ false
high_ends f [] h l = absurd (omega arith)
high_ends f (x ∷ []) h l = let zero_ : 0 < length (x ∷ []) = omega arith in high_other cr x (omega arith) (h 0 zero_)
high_ends f (x ∷ y ∷ ys) h l = high_ends (x == cr) (y ∷ ys) (λ k g. h (suc k) (omega arith)) (omega arith)

marks-encode : (f : Bool) (c : ℕ) → marks f (encode c) ≡ one_if (is_mark f c)
marks-encode f c =
    elim (cases_lt c 128) [
      | inl h ↦ ap (marks f) (encode_ascii c h) ∙ omega arith
      | inr h ↦ high_marks f (encode c) (high_bytes c h) ∙ sym (ap one_if (high_mark f c h))
    ]

ends-encode : (f : Bool) (c : ℕ) → ends_cr f (encode c) ≡ (c == cr)
ends-encode f c =
    elim (cases_lt c 128) [
      | inl h ↦ ap (ends_cr f) (encode_ascii c h)
      | inr h ↦ high_ends f (encode c) (high_bytes c h) (omega (arith, length-encode c, (len_utf8_bounds c).0)) ∙ sym (high_other cr c (omega arith) h)
    ]

marks-encodes : (f : Bool) (cs : List ℕ) → marks f (encodes cs) ≡ marks f cs
marks-encodes f [] = refl
marks-encodes f (c ∷ cs) =
    counts-append marks _ _ (λ _. refl) (λ _ _ _. refl) ends_cr (λ _. refl) (λ _ _ _. refl) f (encode c) (encodes cs)
    ∙ ap (λ b. marks f (encode c) + marks b (encodes cs)) (ends-encode f c)
    ∙ omega (arith, marks-encode f c, marks-encodes (c == cr) cs)

ends-encodes : (f : Bool) (cs : List ℕ) → ends_cr f (encodes cs) ≡ ends_cr f cs
ends-encodes f [] = refl
ends-encodes f (c ∷ cs) =
    walk-append ends_cr _ (λ _. refl) (λ _ _ _. refl) f (encode c) (encodes cs) ∙ ap (λ b. ends_cr b (encodes cs)) (ends-encode f c)
    ∙ ends-encodes (c == cr) cs

pub marks-bytes : (f : Bool) (bs : List ℕ) → IsUtf8 bs → marks f bs ≡ marks f (chars bs)
marks-bytes f bs u = ap (marks f) (sym (encodes-chars bs u)) ∙ marks-encodes f (chars bs)

pub ends-bytes : (f : Bool) (bs : List ℕ) → IsUtf8 bs → ends_cr f bs ≡ ends_cr f (chars bs)
ends-bytes f bs u = ap (ends_cr f) (sym (encodes-chars bs u)) ∙ ends-encodes f (chars bs)

high_first : (bs rest : List ℕ) → ((k : ℕ) → k < length bs → 128 ≤ get_or bs k 0) → 0 < length bs → begins_lf (bs ++ rest) ≡ false
high_first [] rest h l = absurd (omega arith)
high_first (x ∷ xs) rest h l = let zero_ : 0 < length (x ∷ xs) = omega arith in high_other lf x (omega arith) (h 0 zero_)

encode_first : (c : ℕ) (rest : List ℕ) → begins_lf (encode c ++ rest) ≡ (c == 10)
encode_first c rest =
    elim (cases_lt c 128) [
      | inl h ↦ ap (λ t. begins_lf (t ++ rest)) (encode_ascii c h)
      | inr h ↦ high_first (encode c) rest (high_bytes c h) (omega (arith, length-encode c, (len_utf8_bounds c).0)) ∙ sym (high_other lf c (omega arith) h)
    ]

first-lf_of : (bs cs : List ℕ) → encodes cs ≡ bs → begins_lf bs ≡ begins_lf cs
first-lf_of bs [] e = ap begins_lf (sym e)
first-lf_of bs (c ∷ cs) e = ap begins_lf (sym e) ∙ encode_first c (encodes cs)

-- the first of the bytes is an LF exactly if the first of the code points is
pub first-lf : (bs : List ℕ) → IsUtf8 bs → begins_lf bs ≡ begins_lf (chars bs)
first-lf bs u = first-lf_of bs (chars bs) (encodes-chars bs u)

pub first-is : (bs : List ℕ) (b : ℕ) → slice_get bs 0 ≡ Some b → (b == 10) ≡ begins_lf bs
first-is [] b h = absurd cc
first-is (x ∷ xs) b h = let e : b ≡ x = cc in ap (λ (v : ℕ). v == 10) e

pub first-none : (bs : List ℕ) → slice_get bs 0 ≡ None → false ≡ begins_lf bs
first-none [] h = refl
first-none (x ∷ xs) h = absurd cc

-- the last byte says whether the last is a CR
pub ends-last : (f : Bool) (bs : List ℕ) (b : ℕ) → slice_get bs (length bs - 1) ≡ Some b → ends_cr f bs ≡ (b == cr)
ends-last f [] b h = absurd cc
ends-last f (x ∷ []) b h = let e : x ≡ b = cc in ap (λ (v : ℕ). v == cr) e
ends-last f (x ∷ y ∷ ys) b h =
    let one_less : suc (suc (length ys) - 1) ≡ suc (suc (length ys)) - 1 = omega arith in
    ends-last (x == cr) (y ∷ ys) b (ap (slice_get (x ∷ y ∷ ys)) one_less ∙ h)

pub ends-none : (f : Bool) (bs : List ℕ) → slice_get bs (length bs - 1) ≡ None → ends_cr f bs ≡ f
ends-none f [] h = refl
ends-none f (x ∷ xs) h = let some = slice_get-get_or (x ∷ xs) (length (x ∷ xs) - 1) 0 (omega arith) in absurd cc

-- ---- a text's bytes as they are read

pub first-read : (text bytes : List ℕ) (b : ℕ) → IsUtf8 text → bytes ≡ text → Some b ≡ slice_get bytes 0 → (b == lf) ≡ begins_lf (chars text)
first-read text bytes b valid same e = first-is bytes b (sym e) ∙ ap begins_lf same ∙ first-lf text valid

pub none-read : (text bytes : List ℕ) → IsUtf8 text → bytes ≡ text → None ≡ slice_get bytes 0 → false ≡ begins_lf (chars text)
none-read text bytes valid same e = first-none bytes (sym e) ∙ ap begins_lf same ∙ first-lf text valid

pub last-read : (f : Bool) (text bytes : List ℕ) (b : ℕ) → IsUtf8 text → bytes ≡ text → Some b ≡ slice_get bytes (length bytes - 1)
    → (b == cr) ≡ ends_cr f (chars text)
last-read f text bytes b valid same e = sym (ends-last f bytes b (sym e)) ∙ ap (ends_cr f) same ∙ ends-bytes f text valid

pub none-last : (f : Bool) (text bytes : List ℕ) → IsUtf8 text → bytes ≡ text → None ≡ slice_get bytes (length bytes - 1) → f ≡ ends_cr f (chars text)
none-last f text bytes valid same e = sym (ends-none f bytes (sym e)) ∙ ap (ends_cr f) same ∙ ends-bytes f text valid
