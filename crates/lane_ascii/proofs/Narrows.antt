-- Narrowing block by block.
use Rattle.std.proofs.Common.{◌≡◌, ℕ, zero, suc, ◌+◌, ◌*◌, ◌<◌, ◌≤◌, eqb, ltb, List, [], ◌∷◌, ◌++◌, length, take, drop, get_or, refl, sym, subst, ap, ap₂, ◌∙◌}
use Rattle.std.proofs.{Common.arith, Common.take-add, Common.bit_and, Common.bit_or, Common.w8, Common.Fits, Common.IsAscii, lemmas.Bool.agree_below_at}
use Rattle.std.proofs.lemmas.{Bool.Decides.nat_tests, List.drop_all, Nat.le_or_l, Nat.le_or_r, Simd.length-chunk, Simd.length-put_chunk}
use Rattle.std.proofs.lemmas.{Simd.take_more_put_chunk, Str.IsAscii-append, Str.Ascii.IsAscii-cons, Str.Ascii.IsAscii-nil}
use Rattle.lane_ascii.{specs.Pairs.evens, specs.Pairs.spread, proofs.Swaps.pair_at}
use lib.Lanes.{Each1, fold_l, pick_l, put_chunk, zip2}

-- ---- what tells that a pair isn't an ASCII byte and a zero

-- the bits of k pairs that are 0 then
abbrev pub others : ℕ → List ℕ
others zero = []
others (suc k) = 0x80 ∷ 0xFF ∷ others k

low : (b : ℕ) → Fits w8 b → bit_and b 128 ≡ 0 → b < 128
low b fits none = grind (arith, nat_tests, agree_below_at (λ x. eqb (bit_and x 128) 0) (λ x. ltb x 128) 256 b refl fits.fits, none)

high : (b : ℕ) → Fits w8 b → bit_and b 255 ≡ 0 → b ≡ 0
high b fits none = grind (arith, nat_tests, agree_below_at (λ x. eqb (bit_and x 255) 0) (λ x. eqb x 0) 256 b refl fits.fits, none)

none_set : (a : ℕ) (xs : List ℕ) → fold_l bit_or a xs ≡ 0 → (a ≡ 0) × Each1 (λ x. x ≡ 0) xs
none_set a [] none = (none, tt)
none_set a (x ∷ xs) none =
    let rest = none_set (bit_or a x) xs none in
    (omega (arith, le_or_l a x, rest.0), (omega (arith, le_or_r a x, rest.0), rest.1))

lane_by_lane : (k : ℕ) (v : List ℕ) → length v ≡ 2 * k → Each1 (Fits w8) v → Each1 (λ x. x ≡ 0) (zip2 bit_and v (others k))
    → (v ≡ spread (evens v)) × IsAscii (evens v)
lane_by_lane zero [] long fits none = (refl, IsAscii-nil)
lane_by_lane (suc k) (a ∷ b ∷ v) long fits none =
    let rest = lane_by_lane k v (omega (arith, long)) fits.1.1 none.1.1 in
    (ap₂ (λ y r. a ∷ y ∷ r) (high b fits.1.0 none.1.0) rest.0, IsAscii-cons a (evens v) (low a fits.0 none.0) rest.1)
lane_by_lane k v long fits none = absurd (omega (arith, long))

-- if no such bit is set
pub all_pairs : (k : ℕ) (v : List ℕ) → length v ≡ 2 * k → Each1 (Fits w8) v → fold_l bit_or 0 (zip2 bit_and v (others k)) ≡ 0
    → (v ≡ spread (evens v)) × IsAscii (evens v)
all_pairs k v long fits none = lane_by_lane k v long fits (none_set 0 (zip2 bit_and v (others k)) none).1

-- ---- the first of each pair

-- k places that begin at a
abbrev pub places : ℕ → ℕ → List ℕ
places a zero = []
places a (suc k) = a ∷ places (suc (suc a)) k

pub picked : (xs : List ℕ) (k a : ℕ) → a + 2 * k ≡ length xs → pick_l 0 xs (places a k) ≡ evens (drop a xs)
picked xs zero a h = ap evens (sym (drop_all a xs (omega (arith, h))))
picked xs (suc k) a h =
    ap (λ r. get_or xs a 0 ∷ r) (picked xs k (suc (suc a)) (omega (arith, h))) ∙ ap evens (sym (pair_at xs a (omega (arith, h))))

pub length-evens : (k : ℕ) (v : List ℕ) → length v ≡ 2 * k → length (evens v) ≡ k
length-evens zero [] h = refl
length-evens (suc k) (a ∷ b ∷ v) h = ap suc (length-evens k v (omega (arith, h)))
length-evens k v h = absurd (omega (arith, h))

-- ---- blocks

spread-append : (xs ys : List ℕ) → spread (xs ++ ys) ≡ spread xs ++ spread ys
spread-append [] ys = refl
spread-append (x ∷ xs) ys = ap (λ r. x ∷ 0 ∷ r) (spread-append xs ys)

-- the first `at` pairs are written
pub record IsNarrowed (pairs text : List ℕ) (at : ℕ) : Type 0 where
  pub within : 2 * at ≤ length pairs
  pub room : at ≤ length text
  pub narrow : take (2 * at) pairs ≡ spread (take at text)
  pub ascii : IsAscii (take at text)

-- one block more
pub block_narrowed : (pairs text : List ℕ) (at : ℕ) → IsNarrowed pairs text at → 2 * at + 64 ≤ length pairs → at + 32 ≤ length text
    → (let v = take 64 (drop (2 * at) pairs) in v ≡ spread (evens v) → IsAscii (evens v) → IsNarrowed pairs (put_chunk at text (evens v)) (at + 32))
block_narrowed pairs text at so_far within room is ascii =
    let v = take 64 (drop (2 * at) pairs) in
    let long : length (evens v) ≡ 32 = length-evens 32 v (length-chunk (2 * at) 64 pairs within) in
    let front : take (at + 32) (put_chunk at text (evens v)) ≡ take at text ++ evens v =
    take_more_put_chunk at text (evens v) (at + 32) (omega (arith, long)) room in
    let two : 2 * (at + 32) ≡ 2 * at + 64 = omega arith in
    record {
      within = omega (arith, within);
      room = omega (arith, room, length-put_chunk at text (evens v));
      narrow =
          ap (λ n. take n pairs) two
          ∙ take-add (2 * at) 64 pairs
          ∙ ap₂ (λ xs ys. xs ++ ys) so_far.narrow is
          ∙ sym (spread-append (take at text) (evens v))
          ∙ ap spread (sym front);
      ascii = subst IsAscii (sym front) (IsAscii-append (take at text) (evens v) so_far.ascii ascii);
    }
