-- Line marks, as flags and lane by lane.
use Rattle.std.proofs.Common.{◌≡◌, ℕ, zero, suc, ◌+◌, ◌-◌, ◌<◌, ◌≤◌, eqb, Bool, not, cond, ◌==◌, List, [], ◌∷◌, length, take, drop, get_or, map}
use Rattle.std.proofs.Common.{replicate, bit_and, bit_or, Some, refl, sym, ap, ap₂, ◌∙◌, arith, slice_get, ◌%◌, ◌^◌, w8}
use Rattle.std.proofs.lemmas.{Bool.cases_Bool, List.length-map, List.take_more, Simd.bitmask_splat, Simd.zip2_splat, Simd.length-chunk, Simd.length-zip2}
use Rattle.lane_ascii.specs.{Flags.flags_set, Flags.IsNthFlag, Marks.cr, Marks.is_mark, Marks.one_if, Marks.marks, Marks.ends_cr, Marks.mark_flags}
use Rattle.lane_ascii.{specs.Marks.IsNthMark, proofs.Flags.set-le, proofs.Masks.equal}
use Rattle.lemmas.proofs.Recursion.{counts-append, walk-append}
use lib.Lanes.{mask_l, sel_l, sum_l, top, zip2}
use mir.Val.{bits, hbits}

abbrev pub differs : ℕ → ℕ → ℕ
differs a b = cond (not (eqb a b)) 255 0

abbrev pub mark_behind : ℕ → ℕ → Bool
mark_behind before b = is_mark (before == cr) b

-- 1 if a flag is set, and 0 otherwise
pub ones-selected : (flags : List Bool) (n : ℕ) → length flags ≤ n → sel_l flags (replicate n 1) (replicate n 0) ≡ map one_if flags
ones-selected [] n few = refl
ones-selected (f ∷ flags) zero few = absurd (omega arith)
ones-selected (f ∷ flags) (suc n) few = ap (λ ones. one_if f ∷ ones) (ones-selected flags n (omega arith))

lanes : (before here : List ℕ)
    → map (top 7) (zip2 bit_or (map (λ b. equal b 13) here) (zip2 bit_and (map (λ b. equal b 10) here) (map (λ b. differs b 13) before)))
    ≡ zip2 mark_behind before here
lanes (a ∷ before) (b ∷ here) =
    ap₂ (λ x xs. x ∷ xs) (grind (arith, cases_Bool (eqb b 13), cases_Bool (eqb b 10), cases_Bool (eqb a 13))) (lanes before here)
lanes [] (b ∷ here) = refl
lanes before here = refl

-- the flags after the first element, by each one and the one before it
pairs : (f : Bool) (bytes : List ℕ) (at n : ℕ)
    → zip2 mark_behind (take n (drop at bytes)) (take n (drop (suc at) bytes)) ≡ take n (drop (suc at) (mark_flags f bytes))
pairs f (a ∷ bytes) (suc at) n = pairs (a == cr) bytes at n
pairs f (a ∷ b ∷ bytes) zero (suc n) = ap (λ r. is_mark (a == cr) b ∷ r) (pairs (a == cr) (b ∷ bytes) zero n)
pairs f (a ∷ []) zero (suc n) = refl
pairs f [] zero (suc n) = refl
pairs f [] (suc at) (suc n) = refl
pairs f bytes at n = refl

-- a block has 1 at its marks, if the second load is one byte earlier
pub block_ones : (f : Bool) (bytes : List ℕ) (at n : ℕ) → 0 < at → at + n ≤ length bytes
    → sel_l (map (top 7)
    (zip2 bit_or (zip2 equal (take n (drop at bytes)) (replicate n 13))
    (zip2 bit_and (zip2 equal (take n (drop at bytes)) (replicate n 10))
    (zip2 differs (take n (drop (at - 1) bytes)) (replicate n 13))))) (replicate n 1) (replicate n 0)
    ≡ map one_if (take n (drop at (mark_flags f bytes)))
block_ones f bytes zero n some room = absurd (omega arith)
block_ones f bytes (suc at) n some room =
    let here = take n (drop (suc at) bytes) in
    let e : suc at - 1 ≡ at = omega arith in
    let before = take n (drop at bytes) in
    let long : length here ≡ n = length-chunk (suc at) n bytes room in
    let front : length before ≡ n = length-chunk at n bytes (omega arith) in
    let size : length (zip2 mark_behind before here) ≤ n = omega (arith, length-zip2 mark_behind before here (front ∙ sym long)) in
    let cr_here = zip2_splat equal here n 13 long in
    let lf_here = zip2_splat equal here n 10 long in
    let cr_before = zip2_splat differs before n 13 front in
    rw (e, cr_here, lf_here, cr_before, lanes before here, ones-selected (zip2 mark_behind before here) n size, pairs f bytes at n) refl

pub marks-flags : (f : Bool) (bs : List ℕ) → marks f bs ≡ flags_set (mark_flags f bs)
marks-flags f [] = refl
marks-flags f (b ∷ bs) = ap (λ n. one_if (is_mark f b) + n) (marks-flags (b == cr) bs)

pub length-flags : (f : Bool) (bs : List ℕ) → length (mark_flags f bs) ≡ length bs
length-flags f [] = refl
length-flags f (b ∷ bs) = ap suc (length-flags (b == cr) bs)

take-flags : (f : Bool) (bs : List ℕ) (at : ℕ) → take at (mark_flags f bs) ≡ mark_flags f (take at bs)
take-flags f bs zero = refl
take-flags f [] (suc at) = refl
take-flags f (b ∷ bs) (suc at) = ap (λ r. is_mark f b ∷ r) (take-flags (b == cr) bs at)

flag-at : (f : Bool) (bs : List ℕ) (at : ℕ) → at < length bs → slice_get (mark_flags f bs) at ≡ Some (is_mark (ends_cr f (take at bs)) (get_or bs at 0))
flag-at f [] at h = absurd (omega arith)
flag-at f (b ∷ bs) zero h = refl
flag-at f (b ∷ bs) (suc at) h = flag-at (b == cr) bs at (omega arith)

pub nth_mark : (f : Bool) (bs : List ℕ) (n at : ℕ) → IsNthFlag (mark_flags f bs) n at → IsNthMark f bs n at
nth_mark f bs n at h =
    let within : at < length bs = omega (arith, h.within, length-flags f bs) in
    let before = marks-flags f (take at bs) ∙ ap flags_set (sym (take-flags f bs at)) ∙ h.before in
    record { within = within; before = before; is = cc (flag-at f bs at within, h.is) }

-- one more
pub past_more : (f : Bool) (bs : List ℕ) (at : ℕ) {behind : Bool} → behind ≡ ends_cr f (take at bs) → at < length bs
    → (marks f (take (at + 1) bs) ≡ marks f (take at bs) + one_if (is_mark behind (get_or bs at 0))) ×
    ((get_or bs at 0 == cr) ≡ ends_cr f (take (at + 1) bs))
past_more f bs at e h =
    let front = take_more bs at 0 h in
    let last = get_or bs at 0 ∷ [] in
    rw (
      e,
      front,
      counts-append marks _ _ (λ _. refl) (λ _ _ _. refl) ends_cr (λ _. refl) (λ _ _ _. refl) f (take at bs) last,
      walk-append ends_cr _ (λ _. refl) (λ _ _ _. refl) f (take at bs) last,
    ) (omega arith, refl)

pub marks-le : (f : Bool) (bs : List ℕ) → marks f bs ≤ length bs
marks-le f bs = omega (arith, marks-flags f bs, set-le (mark_flags f bs), length-flags f bs)

-- a flag is set if its one isn't 0, which vectors compare
ones-set : (flags : List Bool) → map (λ n. not (eqb n 0)) (map one_if flags) ≡ flags
ones-set [] = refl
ones-set (f ∷ flags) = ap₂ (λ x xs. x ∷ xs) (grind (arith, cases_Bool f)) (ones-set flags)

pub mask_of_ones : (flags : List Bool) (v : List ℕ) (n : ℕ) → v ≡ map one_if flags → length flags ≡ n → n ≤ 64
    → mask_l (map (top (hbits w8)) (zip2 (λ a b. cond (not (eqb a b)) (2 ^ bits w8 - 1) 0) v (replicate n 0))) % 2 ^ 64 ≡ mask_l flags
mask_of_ones flags v n is long few =
    bitmask_splat w8 (λ a b. not (eqb a b)) v n 0 (ap length is ∙ length-map flags one_if ∙ long) few
    ∙ ap (λ ones. mask_l (map (λ x. not (eqb x 0)) ones)) is ∙ ap mask_l (ones-set flags)

-- the ones are as many as the flags that are set
ones-count : (flags : List Bool) → sum_l (map one_if flags) ≡ flags_set flags
ones-count [] = refl
ones-count (f ∷ flags) = ap (λ n. one_if f + n) (ones-count flags)

pub ones-sum : (flags : List Bool) (v : List ℕ) → v ≡ map one_if flags → (sum_l v ≡ flags_set flags) × (sum_l v ≤ length flags)
ones-sum flags v is = let all = ap sum_l is ∙ ones-count flags in (all, omega (arith, all, set-le flags))
