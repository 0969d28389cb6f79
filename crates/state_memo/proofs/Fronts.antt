-- Code points at the front that are alike.
use Rattle.std.proofs.Common.{◌≡◌, refl, sym, ap, subst, ◌∙◌, ℕ, zero, suc, ◌+◌, ◌-◌, ◌*◌, ◌/◌, ◌%◌, ◌^◌, ◌<◌, ◌≤◌, Bool, true, false, cond, ◌||◌, leb, ltb}
use Rattle.std.proofs.Common.{nat_lt, nat_le, List, length, map, take, drop, get_or, replicate, arith, bit_and, bit_or, inl, inr}
use Rattle.std.proofs.{Math.Nat.div-mul-le_self, Math.Nat.suc-mul, lemmas.Bool.cases_Bool, lemmas.List.get_or-map, lemmas.List.length-map}
use Rattle.std.proofs.lemmas.Nat.{and_le_l, mul-le, or_lt, Bits.bit_at_and, Bits.bit_at_or, Bits.bit_at-lt, Bits.bit_at-trailing_zeros, Bits.bit_at-zero}
use Rattle.std.proofs.lemmas.Simd.{bit_mask_l, get_or-chunk, length-chunk, map-map, mask_l-lt, mask_l-mod, zip2_of_maps, zip2_splat, zip2_splat_left}
use Rattle.std.specs.Int.{bit_at, trailing_zeros, w64}
use lib.Lanes.{mask_l, top, zip2}
use mathlib.Core.Path.{fun_ext}
use Rattle.state_memo.proofs.{Walking.alike-part, Prelude.cases_lt, Prelude.nat_tests, Prelude.AreAlike, Prelude.continuation_len}

-- ---- fewer, more, and those of a part

pub alike-few : (bytes : List ℕ) (at len n m : ℕ) → m ≤ n → AreAlike bytes at len n → AreAlike bytes at len m
alike-few bytes at len n m few alike k lt = alike k (omega (arith, lt, few))

-- ---- a mask of bytes outside of bounds

abbrev pub outside : ℕ → ℕ → ℕ → Bool
outside low high b = nat_lt b low || nat_le high b

top-either : (a b : Bool) → top 7 (bit_or (cond a 255 0) (cond b 255 0)) ≡ a || b
top-either a b = grind (arith, cases_Bool a, cases_Bool b)

pub mask-outside : (n low high : ℕ) (v : List ℕ) → length v ≡ n → n ≤ 64 → mask_l (map (top 7)
    (zip2 bit_or (zip2 (λ a b. cond (ltb a b) 255 0) v (replicate n low)) (zip2 (λ a b. cond (leb a b) 255 0) (replicate n high) v))) % 2 ^ 64
    ≡ mask_l (map (outside low high) v)
mask-outside n low high v long few =
    let lanes = zip2_of_maps bit_or _ _ v (zip2_splat (λ a b. cond (ltb a b) 255 0) v n low long)
    (zip2_splat_left (λ a b. cond (leb a b) 255 0) high n v long) in
    ap (λ xs. mask_l xs % 2 ^ 64)
    (ap (map (top 7)) lanes ∙ map-map (top 7) (λ u. bit_or (cond (ltb u low) 255 0) (cond (leb high u) 255 0)) v
    ∙ ap (λ q. map q v) (fun_ext (λ u. top-either (nat_lt u low) (nat_le high u))))
    ∙ mask_l-mod (map (outside low high) v) 64 (omega (arith, length-map v (outside low high), long, few))

-- ---- the bytes at which they begin

pub firsts-two : (k : ℕ) → k * 2 < 16 → bit_at 0x5555 (k * 2) ≡ 1
firsts-two zero h = refl
firsts-two (suc zero) h = refl
firsts-two (suc (suc zero)) h = refl
firsts-two (suc (suc (suc zero))) h = refl
firsts-two (suc (suc (suc (suc zero)))) h = refl
firsts-two (suc (suc (suc (suc (suc zero))))) h = refl
firsts-two (suc (suc (suc (suc (suc (suc zero)))))) h = refl
firsts-two (suc (suc (suc (suc (suc (suc (suc zero))))))) h = refl
firsts-two (suc (suc (suc (suc (suc (suc (suc (suc k)))))))) h = absurd (omega (arith, h))

pub firsts-three : (k : ℕ) → k * 3 < 16 → bit_at 0x9249 (k * 3) ≡ 1
firsts-three zero h = refl
firsts-three (suc zero) h = refl
firsts-three (suc (suc zero)) h = refl
firsts-three (suc (suc (suc zero))) h = refl
firsts-three (suc (suc (suc (suc zero)))) h = refl
firsts-three (suc (suc (suc (suc (suc zero))))) h = refl
firsts-three (suc (suc (suc (suc (suc (suc k)))))) h = absurd (omega (arith, h))

pub firsts-four : (k : ℕ) → k * 4 < 16 → bit_at 0x1111 (k * 4) ≡ 1
firsts-four zero h = refl
firsts-four (suc zero) h = refl
firsts-four (suc (suc zero)) h = refl
firsts-four (suc (suc (suc zero))) h = refl
firsts-four (suc (suc (suc (suc k)))) h = absurd (omega (arith, h))

-- ---- those that begin in sixteen bytes

-- the lowest bit that is set of those bytes, or the one after them
module _ (mask firsts : ℕ) (small : mask < 2 ^ 64) where
  abbrev stops : ℕ
  stops = bit_or (bit_and mask firsts) 0x10000

  behind-set : bit_at stops 16 ≡ 1
  behind-set =
      let behind : bit_at 0x10000 16 ≡ 1 = refl in
      omega (arith, bit_at_or (bit_and mask firsts) 0x10000 16, bit_at-lt (bit_and mask firsts) 16, behind)

  some : 0 < stops
  some = elim (cases_lt 0 stops) [
    | inl l ↦ l
    | inr g ↦
        let none : stops ≡ 0 = omega (arith, g) in
        absurd (omega (arith, behind-set, ap (λ (n : ℕ). bit_at n 16) none ∙ bit_at-zero 16))
  ]

  fits : stops < 2 ^ 64
  fits = or_lt 64 (bit_and mask firsts) 0x10000 (omega (arith, and_le_l mask firsts, small)) (omega arith)

  abbrev lowest : ℕ
  lowest = trailing_zeros w64 stops

  lowest-few : lowest ≤ 16
  lowest-few = elim (cases_lt 16 lowest) [
    | inl l ↦ absurd (omega (arith, behind-set, (bit_at-trailing_zeros w64 stops some fits).2 16 l))
    | inr g ↦ g
  ]

  clear : (i : ℕ) → i < lowest → bit_at firsts i ≡ 1 → bit_at mask i ≡ 0
  clear i lt first =
      omega (arith, (bit_at-trailing_zeros w64 stops some fits).2 i lt, bit_at_or (bit_and mask firsts) 0x10000 i, bit_at_and mask firsts i, first)

pub quotient-few : (t len k : ℕ) → k < t / len → k * len + len ≤ t
quotient-few t len k lt = omega (arith, mul-le (suc k) len (t / len) len (omega (arith, lt)) (omega arith), div-mul-le_self t len, suc-mul k len)

pub within-16 : (mask firsts len : ℕ) (small : mask < 2 ^ 64) → trailing_zeros w64 (bit_or (bit_and mask firsts) 0x10000) / len * len ≤ 16
within-16 mask firsts len small = omega (arith, div-mul-le_self (lowest mask firsts small) len, lowest-few mask firsts small)

mask-small : (p : ℕ → Bool) (bytes : List ℕ) → 16 ≤ length bytes → mask_l (map p (take 16 bytes)) < 2 ^ 64
mask-small p bytes room =
    let long : length (map p (take 16 bytes)) ≡ 16 = length-map (take 16 bytes) p ∙ length-chunk 0 16 bytes room in
    omega (arith, subst (λ (n : ℕ). mask_l (map p (take 16 bytes)) < 2 ^ n) long (mask_l-lt (map p (take 16 bytes))))

inside : (low high b : ℕ) → outside low high b ≡ false → (low ≤ b) × (b < high)
inside low high b e = (grind (arith, nat_tests, e), grind (arith, nat_tests, e))

unset : (b : Bool) (bit : ℕ) → bit ≡ cond b 1 0 → bit ≡ 0 → b ≡ false
unset true bit e none = absurd (omega (arith, e, none))
unset false bit e none = refl

pub front-of : (bytes : List ℕ) (len low high firsts mask : ℕ) → 16 ≤ length bytes → 2 ≤ len
    → mask ≡ mask_l (map (outside low high) (take 16 bytes)) → ((k : ℕ) → k * len < 16 → bit_at firsts (k * len) ≡ 1)
    → ((b : ℕ) → low ≤ b → b < high → len ≡ continuation_len b + 1) → AreAlike bytes 0 len (trailing_zeros w64 (bit_or (bit_and mask firsts) 0x10000) / len)
front-of bytes len low high firsts mask room wide mask_is first lead k lt =
    let p = outside low high in
    let small : mask < 2 ^ 64 = subst (λ (m : ℕ). m < 2 ^ 64) (sym mask_is) (mask-small p bytes room) in
    let near : k * len + len ≤ lowest mask firsts small = quotient-few (lowest mask firsts small) len k lt in
    let here : k * len < 16 = omega (arith, near, wide, lowest-few mask firsts small) in
    let long : length (take 16 bytes) ≡ 16 = length-chunk 0 16 bytes room in
    let zero_bit : bit_at mask (k * len) ≡ 0 = clear mask firsts small (k * len) (omega (arith, near, wide)) (first k here) in
    let off : p (get_or bytes (0 + k * len) 0) ≡ false =
    ap p (sym (get_or-chunk 0 16 bytes (k * len) 0 here))
    ∙ sym (get_or-map p (take 16 bytes) (k * len) 0 false (omega (arith, long, here)))
    ∙ unset (get_or (map p (take 16 bytes)) (k * len) false) (bit_at mask (k * len)) (ap (λ (m : ℕ). bit_at m (k * len)) mask_is
    ∙ bit_mask_l (map p (take 16 bytes)) (k * len)) zero_bit in
    let lies = inside low high (get_or bytes (0 + k * len) 0) off in
    (omega (arith, here, room), lead (get_or bytes (0 + k * len) 0) lies.0 lies.1)

pub quotient-least : (q len : ℕ) → 2 ≤ len → q * len ≤ 16 → q ≤ 16
quotient-least q len wide few = omega (arith, few, mul-le q 1 q len (omega arith) (omega (arith, wide)))

-- ---- one part behind another

pub alike-more : (bytes : List ℕ) (len n m : ℕ) → AreAlike bytes 0 len n → AreAlike bytes (n * len) len m → AreAlike bytes 0 len (n + m)
alike-more bytes len n m front back k lt =
    elim (cases_lt k n) [
      | inl l ↦ front k l
      | inr g ↦
          let far : n * len + (k - n) * len ≡ 0 + k * len = sym (times n (k - n) len k (omega (arith, g))) in
          rw far at (back (k - n) (omega (arith, lt, g)))
    ]
  where
    times : (n m len k : ℕ) → k ≡ n + m → 0 + k * len ≡ n * len + m * len
    times n m len k e = ap (λ (i : ℕ). 0 + i * len) e ∙ omega arith

-- those of the part after the first ones
pub alike-behind : (bytes : List ℕ) (at len n m : ℕ) → at ≡ n * len → AreAlike bytes 0 len n
    → AreAlike (take (length bytes - at) (drop at bytes)) 0 len m → AreAlike bytes 0 len (n + m)
alike-behind bytes at len n m at_is front back =
    alike-more bytes len n m front (subst (λ (a : ℕ). AreAlike bytes a len m) at_is (alike-part bytes bytes at len m m m refl back (omega arith)))

-- there are no more of them than bytes
pub alike-count : (bytes : List ℕ) (len n : ℕ) → 1 ≤ len → AreAlike bytes 0 len n → n ≤ length bytes
alike-count bytes len zero wide alike = omega arith
alike-count bytes len (suc n) wide alike =
    let last = (alike n (omega arith)).0 in
    omega (arith, last, mul-le n 1 n len (omega arith) wide)

pub alike-counts : (bytes : List ℕ) (at len n m : ℕ) → 1 ≤ len → at ≡ n * len → at ≤ length bytes
    → AreAlike (take (length bytes - at) (drop at bytes)) 0 len m → n + m ≤ length bytes
alike-counts bytes at len n m wide at_is within back =
    let few = alike-count (take (length bytes - at) (drop at bytes)) len m wide back in
    omega (arith, at_is, within, mul-le n 1 n len (omega arith) wide, few, length-chunk at (length bytes - at) bytes (omega (arith, within)))
