-- The line end that a text begins with, by its first bytes.
use Rattle.std.proofs.{Common.ℕ, Common.◌≡◌, Common.Bool, Common.cond, Common.◌==◌, Common.length-append, Math.Utf8.encode, Math.Utf8.encodes}
use Rattle.position_map.proofs.Words.{refl, sym, ap, ◌∙◌, ◌<◌, ◌≤◌, inl, inr, true, false, List, [], ◌∷◌, ◌++◌, length, get_or, arith, IsUtf8, chars, ending_of}
use Rattle.std.proofs.lemmas.{Bool.cases_lt, Bool.Decides.nat_tests, Str.encode_ascii, Str.encodes-chars, Str.length-encode, Str.len_utf8_bounds}
use Rattle.lemmas.proofs.Texts.{high_bytes, high_other}
use Rattle.position_map.specs.declared.cuts.Ending.{Ending, TheVariants.Two, TheVariants.One, TheVariants.Open}

-- whether it is first
abbrev starts : ℕ → List ℕ → Bool
starts v [] = false
starts v (x ∷ xs) = x == v

high_start : (v : ℕ) (bs rest : List ℕ) → v < 128 → ((k : ℕ) → k < length bs → 128 ≤ get_or bs k 0) → 0 < length bs → starts v (bs ++ rest) ≡ false
high_start v [] rest few h l = absurd (omega arith)
high_start v (x ∷ xs) rest few h l = high_other v x few (h 0 l)

-- a byte of ASCII is first if it is the first code point
first_own : (v c : ℕ) (rest : List ℕ) → v < 128 → starts v (encode c ++ rest) ≡ (c == v)
first_own v c rest few =
    elim (cases_lt c 128) [
      | inl h ↦ ap (λ t. starts v (t ++ rest)) (encode_ascii c h)
      | inr h ↦ high_start v (encode c) rest few (high_bytes c h) (omega (arith, length-encode c, (len_utf8_bounds c).0)) ∙ sym (high_other v c few h)
    ]

-- no CR is first
no_end : (xs : List ℕ) → starts 13 xs ≡ false → ending_of xs ≡ One
no_end [] h = refl
no_end (x ∷ []) h = ap (λ b. cond b Open One) h
no_end (x ∷ y ∷ ys) h = ap (λ b. cond b (cond (y == 10) Two One) One) h

differs : (x v : ℕ) → (x ≡ v → ⊥) → (x == v) ≡ false
differs x v h = grind (arith, nat_tests, h)

first_not : (bs : List ℕ) → (get_or bs 0 0 ≡ 13 → ⊥) → starts 13 bs ≡ false
first_not [] h = refl
first_not (x ∷ xs) h = differs x 13 h

-- something follows the first
two : (c : ℕ) (xs : List ℕ) → 0 < length xs → ending_of (c ∷ xs) ≡ cond (c == 13) (cond (starts 10 xs) Two One) One
two c [] l = absurd (omega arith)
two c (x ∷ xs) l = refl

behind_ascii : (c : ℕ) (cs : List ℕ) → ending_of (c ∷ encodes cs) ≡ ending_of (c ∷ cs)
behind_ascii c [] = refl
behind_ascii c (d ∷ ds) =
    let some : 0 < length (encode d ++ encodes ds) = omega (arith, length-append (encode d) (encodes ds), length-encode d, (len_utf8_bounds d).0) in
    two c (encode d ++ encodes ds) some ∙ ap (λ b. cond (c == 13) (cond b Two One) One) (first_own 10 d (encodes ds) (omega arith))

of_encodes : (cs : List ℕ) → ending_of (encodes cs) ≡ ending_of cs
of_encodes [] = refl
of_encodes (c ∷ cs) =
    elim (cases_lt c 128) [
      | inl h ↦ ap (λ t. ending_of (t ++ encodes cs)) (encode_ascii c h) ∙ behind_ascii c cs
      | inr h ↦ no_end (encode c ++ encodes cs) (first_own 13 c (encodes cs) (omega arith) ∙ high_other 13 c (omega arith) h)
          ∙ sym (no_end (c ∷ cs) (high_other 13 c (omega arith) h))
    ]

pub ending-bytes : (text bytes : List ℕ) (e : Ending) → IsUtf8 text → bytes ≡ text → ending_of bytes ≡ e → e ≡ ending_of (chars text)
ending-bytes text bytes e u is h = sym h ∙ ap ending_of (is ∙ sym (encodes-chars text u)) ∙ of_encodes (chars text)

-- ---- by two bytes

pub no_byte : (bs : List ℕ) (is_empty : Bool) → is_empty ≡ (length bs == 0) → is_empty ≡ true → ending_of bs ≡ One
no_byte [] b is e = refl
no_byte (x ∷ xs) b is e = absurd (grind (arith, nat_tests, is, e))

pub no_cr : (bs : List ℕ) → (get_or bs 0 0 ≡ 13 → ⊥) → ending_of bs ≡ One
no_cr bs h = no_end bs (first_not bs h)

pub cr_alone : (bs : List ℕ) → get_or bs 0 0 ≡ 13 → length bs ≡ 1 → ending_of bs ≡ Open
cr_alone [] h l = absurd (omega (arith, l))
cr_alone (x ∷ []) h l = rw h refl
cr_alone (x ∷ y ∷ ys) h l = absurd (omega (arith, l))

pub cr_lf : (bs : List ℕ) → get_or bs 0 0 ≡ 13 → get_or bs 1 0 ≡ 10 → ending_of bs ≡ Two
cr_lf [] h g = absurd (omega (arith, h))
cr_lf (x ∷ []) h g = absurd (omega (arith, g))
cr_lf (x ∷ y ∷ ys) h g = rw (h, g) refl

pub cr_other : (bs : List ℕ) → get_or bs 0 0 ≡ 13 → (length bs ≡ 1 → ⊥) → (get_or bs 1 0 ≡ 10 → ⊥) → ending_of bs ≡ One
cr_other [] h l g = absurd (omega (arith, h))
cr_other (x ∷ []) h l g = absurd (l (omega arith))
cr_other (x ∷ y ∷ ys) h l g = rw h (ap (λ b. cond b Two One) (differs y 10 g))
