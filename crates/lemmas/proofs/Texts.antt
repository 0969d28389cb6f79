-- Texts: what the first byte of a code point's form says of it, and texts cut where a code point begins.
use Rattle.std.proofs.Common.{◌≡◌, refl, sym, ap, ◌∙◌, ℕ, zero, suc, ◌+◌, ◌/◌, ◌<◌, ◌≤◌, inl, inr, true, false, ◌==◌, nat_lt, List, [], ◌∷◌, ◌++◌, length}
use Rattle.std.proofs.Common.{take, drop, get_or, arith, append-nil, take-append-drop}
use Rattle.std.specs.Str.{chars, IsUtf8, IsCharBoundary, continuation_len}
use Rattle.std.proofs.Math.Utf8.{scalar, scalars, next, encode, encodes}
use Rattle.std.proofs.lemmas.{Bool.and_parts, Bool.cases_lt, Bool.cond_both, Bool.Decides.nat_tests, List.take_at, List.drop_at}
use Rattle.std.proofs.lemmas.Str.{encodes-append, encodes-chars, scalars-chars, chars-encodes, inside_one, IsCharBoundary-at_seam}

-- a byte that isn't ASCII isn't a byte that is
pub high_other : (v x : ℕ) → v < 128 → 128 ≤ x → (x == v) ≡ false
high_other v x few h = grind (arith, nat_tests)

-- the form of a code point that isn't ASCII has no byte that is
pub high_bytes : (c : ℕ) → 128 ≤ c → (k : ℕ) → k < length (encode c) → 128 ≤ get_or (encode c) k 0
high_bytes c h k l =
    elim (cases_lt (get_or (encode c) k 0) 128) [
      | inl g ↦ let e : c ≡ get_or (encode c) k 0 = inside_one c [] (encode c) k (sym (append-nil (encode c))) l g in absurd (omega (arith, e, g, h))
      | inr g ↦ g
    ]

-- the number of bytes is that which the first one promises
abbrev pub Led : List ℕ → List ℕ → Type 0
Led rest bs = continuation_len (get_or (bs ++ rest) 0 0) + 1 ≡ length bs

led : (rest : List ℕ) (b : ℕ) (more : List ℕ) → continuation_len b ≡ length more → Led rest (b ∷ more)
led rest b more e = omega (arith, e)

two : (n : ℕ) → n < 32 → continuation_len (192 + n) ≡ 1
two n h = grind (arith, nat_tests)

three : (n : ℕ) → n < 16 → continuation_len (224 + n) ≡ 2
three n h = grind (arith, nat_tests)

four : (n : ℕ) → continuation_len (240 + n) ≡ 3
four n = grind (arith, nat_tests)

pub lead-encode : (c : ℕ) (rest : List ℕ) → Led rest (encode c)
unfolding encode
lead-encode c rest =
    cond_both (nat_lt c 128) _ _ (Led rest) (λ h. let n : c < 128 = grind (arith, nat_tests) in led rest c [] (grind (arith, nat_tests)))
    (λ h0. cond_both (nat_lt c 2048) _ _ (Led rest) (λ h. let n : c < 2048 = grind (arith, nat_tests) in
    led rest (192 + c / 64) (next c ∷ []) (two (c / 64) (omega arith)))
    (λ h1. cond_both (nat_lt c 65536) _ _ (Led rest) (λ h. let n : c < 65536 = grind (arith, nat_tests) in
    led rest (224 + c / 4096) (next (c / 64) ∷ next c ∷ []) (three (c / 4096) (omega arith)))
    (λ h2. led rest (240 + c / 262144) (next (c / 4096) ∷ next (c / 64) ∷ next c ∷ []) (four (c / 262144)))))

pub scalars-take : (cs : List ℕ) (k : ℕ) → scalars cs ≡ true → scalars (take k cs) ≡ true
scalars-take cs zero s = refl
scalars-take [] (suc k) s = refl
scalars-take (c ∷ cs) (suc k) s = let w = and_parts (scalar c) (scalars cs) s in rw w.0 (scalars-take cs k w.1)

pub scalars-drop : (cs : List ℕ) (k : ℕ) → scalars cs ≡ true → scalars (drop k cs) ≡ true
scalars-drop [] zero s = s
scalars-drop [] (suc k) s = s
scalars-drop (c ∷ cs) zero s = s
scalars-drop (c ∷ cs) (suc k) s = scalars-drop cs k (and_parts (scalar c) (scalars cs) s).1

-- the text before and after the byte at which code point number k begins
pub record IsCut (text : List ℕ) (k at : ℕ) : Type 0 where
  pub boundary : IsCharBoundary text at
  pub first : take at text ≡ encodes (take k (chars text))
  pub front : chars (take at text) ≡ take k (chars text)
  pub back : chars (drop at text) ≡ drop k (chars text)

pub IsCut-at : (text : List ℕ) (k at : ℕ) → IsUtf8 text → at ≡ length (encodes (take k (chars text))) → IsCut text k at
IsCut-at text k at u o =
    let cs = chars text in
    let valid = scalars-chars text u in
    let later = scalars-drop cs k valid in
    let parts : text ≡ encodes (take k cs) ++ encodes (drop k cs) =
    sym (encodes-chars text u) ∙ ap encodes (sym (take-append-drop k cs)) ∙ encodes-append (take k cs) (drop k cs) in
    let ahead : take at text ≡ encodes (take k cs) = ap (take at) parts ∙ take_at (encodes (take k cs)) (encodes (drop k cs)) at (sym o) in
    let behind : drop at text ≡ encodes (drop k cs) = ap (drop at) parts ∙ drop_at (encodes (take k cs)) (encodes (drop k cs)) at (sym o) in
    record {
      boundary = rw o (IsCharBoundary-at_seam text (encodes (take k cs)) (encodes (drop k cs)) parts (drop k cs, (later, refl)));
      first = ahead;
      front = ap chars ahead ∙ chars-encodes (take k cs) (scalars-take cs k valid);
      back = ap chars behind ∙ chars-encodes (drop k cs) later;
    }
