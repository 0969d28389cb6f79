-- UTF-8 forms, each as one number.
use Rattle.std.proofs.lemmas.Bool.{Decides.nat_tests, false≢true, lt-ltb, le-ltb, lt-leb, le-leb, cases_lt}
use Rattle.std.proofs.Common.{◌≡◌, refl, ap, ◌∙◌, ℕ, ◌+◌, ◌*◌, ◌/◌, ◌%◌, ◌<◌, ◌≤◌, List, [], ◌∷◌, ◌++◌, length, take, drop, slice_set, Option, Some, None}
use Rattle.std.proofs.Common.{IfSome, is_some, arith, append_assoc, inl, inr, nat_le, true, ltb-true}
use Rattle.std.{proofs.Math.Utf8.encode, proofs.Math.Utf8.scalar_cases, specs.Char.IsScalar, specs.Char.len_utf8}
use Rattle.std.proofs.lemmas.{List.drop-set-lt, List.take-set-le, List.take_more_set, List.length-set, Str.encode_ascii, Str.len_utf8_ascii}
use Rattle.index_loader.specs.Form.{form_number, number_of, code_point_in, is_short, is_wide, IsForm, AreFronts, IsFormPut}

-- ---- the number of a code point

-- how many bytes a code point has, with the number of its form
data HasNumber (c n : ℕ) : Type 0 where
  OneByte : c < 0x80 → n ≡ 0x100_0000 + c → HasNumber c n
  TwoBytes : 0x80 ≤ c → c < 0x800 → n ≡ 0x200_0000 + 0x100 * (0x80 + c % 0x40) + (0xC0 + c / 0x40) → HasNumber c n
  ThreeBytes : 0x800 ≤ c → c < 0x1_0000
      → n ≡ 0x300_0000 + 0x1_0000 * (0x80 + c % 0x40) + 0x100 * (0x80 + c / 0x40 % 0x40) + (0xE0 + c / 0x1000) → HasNumber c n
  FourBytes : 0x1_0000 ≤ c
      → n ≡ 0x100_0000 * (0x80 + c % 0x40) + 0x1_0000 * (0x80 + c / 0x40 % 0x40) + 0x100 * (0x80 + c / 0x1000 % 0x40) + (0xF0 + c / 0x4_0000)
      → HasNumber c n

has_number : (c n : ℕ) → n ≡ form_number c → HasNumber c n
has_number c n is = elim (cases_lt c 0x80) [
  | inl a ↦ OneByte a (rw (lt-ltb c 0x80 a) at is)
  | inr a ↦
      elim (cases_lt c 0x800) [
        | inl b ↦ TwoBytes a b (rw (le-ltb c 0x80 a, lt-ltb c 0x800 b) at is)
        | inr b ↦
            elim (cases_lt c 0x1_0000) [
              | inl d ↦ ThreeBytes b d (rw (le-ltb c 0x80 a, le-ltb c 0x800 b, lt-ltb c 0x1_0000 d) at is)
              | inr d ↦ FourBytes d (rw (le-ltb c 0x80 a, le-ltb c 0x800 b, le-ltb c 0x1_0000 d) at is)
            ]
      ]
]

scalar_bound : (c : ℕ) → IsScalar c → c < 0x11_0000
scalar_bound c s = elim (scalar_cases c s) [ inl low ↦ omega (arith, low) | inr high ↦ high.1 ]

-- ---- and back

back-from : (c n : ℕ) → c < 0x11_0000 → HasNumber c n → code_point_in n ≡ Some c
back-from c n most (OneByte h e) = rw (le-ltb n 0x100_0000 (omega arith), lt-ltb n 0x200_0000 (omega arith)) (ap Some (omega arith))
back-from c n most (TwoBytes l h e) =
    rw (le-ltb n 0x100_0000 (omega arith), le-ltb n 0x200_0000 (omega arith), lt-ltb n 0x300_0000 (omega arith)) (ap Some (omega arith))
back-from c n most (ThreeBytes l h e) = grind (arith, nat_tests, e)
back-from c n most (FourBytes l e) = grind (arith, nat_tests, e)

pub back : (c : ℕ) → IsScalar c → code_point_in (form_number c) ≡ Some c
back c s = back-from c (form_number c) (scalar_bound c s) (has_number c (form_number c) refl)

pub formed : (c : ℕ) → IsScalar c → IsForm (form_number c)
formed c s = let e = back c s in record { scalar = rw e s; number = rw e refl }

-- ---- how long a form is

wide_code_point : (c n : ℕ) → HasNumber c n → nat_le 0x200_0000 n ≡ nat_le 0x80 c
wide_code_point c n (OneByte h e) = rw (lt-leb 0x200_0000 n (omega arith), lt-leb 0x80 c h)
wide_code_point c n (TwoBytes l h e) = rw (le-leb 0x200_0000 n (omega arith), le-leb 0x80 c l)
wide_code_point c n (ThreeBytes l h e) = rw (le-leb 0x200_0000 n (omega arith), le-leb 0x80 c (omega arith))
wide_code_point c n (FourBytes l e) = rw (le-leb 0x200_0000 n (omega arith), le-leb 0x80 c (omega arith))

wide_number : (o : Option ℕ) (n : ℕ) → n ≡ number_of o → nat_le 0x200_0000 n ≡ is_wide o
wide_number None n is = rw is refl
wide_number (Some c) n is = wide_code_point c n (has_number c n is)

pub wide : (n : ℕ) → IsForm n → nat_le 0x200_0000 n ≡ is_wide (code_point_in n)
wide n form = wide_number (code_point_in n) n form.number

bounds : (c n : ℕ) → HasNumber c n → (0x100_0000 ≤ n) × (c < 0x1_0000 → n < 0x8000_0000)
bounds c n (OneByte h e) = (omega arith, λ low. omega arith)
bounds c n (TwoBytes l h e) = (omega arith, λ low. omega arith)
bounds c n (ThreeBytes l h e) = (omega arith, λ low. omega arith)
bounds c n (FourBytes l e) = (omega arith, λ low. absurd (omega arith))

some_number : (o : Option ℕ) (n : ℕ) → n ≡ number_of o → nat_le 0x100_0000 n ≡ is_some o
some_number None n is = rw is refl
some_number (Some c) n is = le-leb 0x100_0000 n (bounds c n (has_number c n is)).0

pub some : (n : ℕ) → IsForm n → nat_le 0x100_0000 n ≡ is_some (code_point_in n)
some n form = some_number (code_point_in n) n form.number

-- ---- the bytes of a form

-- four bytes written in a row
more : (xs front : List ℕ) (i j y : ℕ) → j ≡ i + 1 → i < length xs → take i xs ≡ front → take j (slice_set xs i y) ≡ front ++ y ∷ []
more xs front i j y next room same = rw (next, ← same) (take_more_set xs i y room)

pub fronts : (xs : List ℕ) (at n a b c d : ℕ) → at + 4 ≤ length xs → a ≡ n % 0x100 → b ≡ n / 0x100 % 0x100 → c ≡ n / 0x1_0000 % 0x100
    → AreFronts xs (slice_set (slice_set (slice_set (slice_set xs at a) (at + 1) b) (at + 2) c) (at + 3) d) at n
fronts xs at n a b c d room a_is b_is c_is =
    let s = slice_set xs at a in
    let t = slice_set s (at + 1) b in
    let u = slice_set t (at + 2) c in
    let s_long : length s ≡ length xs = length-set xs at a in
    let t_long : length t ≡ length xs = length-set s (at + 1) b ∙ s_long in
    let one : take (at + 1) s ≡ take at xs ++ a ∷ [] = more xs (take at xs) at (at + 1) a refl (omega (arith, room)) refl in
    let two : take (at + 2) t ≡ take at xs ++ a ∷ b ∷ [] =
    more s (take at xs ++ a ∷ []) (at + 1) (at + 2) b (omega arith) (omega (arith, room, s_long)) one ∙ append_assoc (take at xs) (a ∷ []) (b ∷ []) in
    let three : take (at + 3) u ≡ take at xs ++ a ∷ b ∷ c ∷ [] =
    more t (take at xs ++ a ∷ b ∷ []) (at + 2) (at + 3) c (omega arith) (omega (arith, room, t_long)) two ∙ append_assoc (take at xs) (a ∷ b ∷ []) (c ∷ []) in
    record {
      one = rw (← a_is) (Prim.grind (arith, take-set-le {A = ℕ}, one));
      two = rw (← a_is, ← b_is) (Prim.grind (arith, take-set-le {A = ℕ}, two));
      three = rw (← a_is, ← b_is, ← c_is) (Prim.grind (arith, take-set-le {A = ℕ}, three));
    }

pub behind : (xs : List ℕ) (at a b c d : ℕ)
    → drop (at + 4) (slice_set (slice_set (slice_set (slice_set xs at a) (at + 1) b) (at + 2) c) (at + 3) d) ≡ drop (at + 4) xs
behind xs at a b c d = Prim.grind (arith, drop-set-lt {A = ℕ})

-- ---- a form of one to three bytes

put : (c n at k : ℕ) (before after bytes : List ℕ) → IsScalar c → n / 0x100_0000 ≡ k → len_utf8 c ≡ k
    → take (at + k) after ≡ take at before ++ bytes → encode c ≡ bytes → IsFormPut (Some c) before after at (at + n / 0x100_0000)
put c n at k before after bytes s end long front spelt =
    record { code_point = c; is = refl; scalar = s; ends = rw (end, long) refl; front = rw (end, spelt) front }

put_code_point : (c n at : ℕ) (before after : List ℕ) → IsScalar c → HasNumber c n → n < 0x8000_0000 → AreFronts before after at n
    → IsFormPut (Some c) before after at (at + n / 0x100_0000)
unfolding encode
put_code_point c n at before after s (OneByte h e) short fronts =
    let first : c ≡ n % 0x100 = omega (arith, e, h) in
    put c n at 1 before after _ s (omega (arith, e, h)) (len_utf8_ascii c h) fronts.one (rw (← first) (encode_ascii c h))
put_code_point c n at before after s (TwoBytes l h e) short fronts =
    let first : 0xC0 + c / 0x40 ≡ n % 0x100 = omega (arith, e, h) in
    let second : 0x80 + c % 0x40 ≡ n / 0x100 % 0x100 = omega (arith, e, h) in
    put c n at 2 before after _ s (omega (arith, e, h)) (rw (le-ltb c 0x80 l, lt-ltb c 0x800 h)) fronts.two
    (rw (le-ltb c 0x80 l, lt-ltb c 0x800 h, first, second))
put_code_point c n at before after s (ThreeBytes l h e) short fronts =
    let first : 0xE0 + c / 0x1000 ≡ n % 0x100 = omega (arith, e, h) in
    let second : 0x80 + c / 0x40 % 0x40 ≡ n / 0x100 % 0x100 = omega (arith, e, h) in
    let third : 0x80 + c % 0x40 ≡ n / 0x1_0000 % 0x100 = omega (arith, e, h) in
    let over = le-ltb c 0x80 (omega arith) in
    put c n at 3 before after _ s (omega (arith, e, h)) (rw (over, le-ltb c 0x800 l, lt-ltb c 0x1_0000 h)) fronts.three
    (rw (over, le-ltb c 0x800 l, lt-ltb c 0x1_0000 h, first, second, third))
put_code_point c n at before after s (FourBytes l e) short fronts = absurd (omega arith)

put_some : (o : Option ℕ) (n at : ℕ) (before after : List ℕ) → IfSome o (λ c. IsScalar c) → n ≡ number_of o → 0 < n → n < 0x8000_0000
    → AreFronts before after at n → IsFormPut o before after at (at + n / 0x100_0000)
put_some None n at before after s n_is some short fronts = absurd (omega (arith, n_is, some))
put_some (Some c) n at before after s n_is some short fronts = put_code_point c n at before after s (has_number c n n_is) short fronts

pub form_put : (n at : ℕ) (before after : List ℕ) → IsForm n → 0 < n → n < 0x8000_0000 → AreFronts before after at n
    → IsFormPut (code_point_in n) before after at (at + n / 0x100_0000)
form_put n at before after form some short fronts = put_some (code_point_in n) n at before after form.scalar form.number some short fronts

short_some : (o : Option ℕ) (n : ℕ) → n ≡ number_of o → is_short o ≡ true → (0 < n) × (n < 0x8000_0000)
short_some None n n_is short = absurd (false≢true short)
short_some (Some c) n n_is short = let b = bounds c n (has_number c n n_is) in (omega (arith, b.0), b.1 (ltb-true c 0x1_0000 short))

-- the number of a form of three bytes at most is neither that of none nor has it the highest bit
pub short-bounds : (n : ℕ) → IsForm n → is_short (code_point_in n) ≡ true → (0 < n) × (n < 0x8000_0000)
short-bounds n form short = short_some (code_point_in n) n form.number short
