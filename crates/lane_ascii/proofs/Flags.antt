-- Flags of elements and the masks that have them as bits.
use Rattle.std.proofs.Common.{◌≡◌, ℕ, zero, suc, ◌+◌, ◌*◌, ◌-◌, ◌/◌, ◌%◌, ◌^◌, ◌<◌, ◌≤◌, Bool, true, cond, List, [], ◌∷◌, ◌++◌, length, take, drop, Some}
use Rattle.std.proofs.Common.{refl, sym, ap, ◌∙◌, arith, take-add, take-take, take_all, drop-drop, take-append-drop, length-drop, length-take, get_or-drop}
use Rattle.std.proofs.Common.{get_or-take, pow_mono, slice_get, pow-suc}
use Rattle.std.proofs.lemmas.{Bool.cases_Bool, List.drop-take, Option.slice_get-get_or, Option.get_or_from_slice_get, Nat.shr_high, Nat.mod_low}
use Rattle.std.{proofs.lemmas.Simd.mask_l-lt, proofs.lemmas.Simd.ones-mask_l_cons, specs.Int.RustNames.count_ones}
use Rattle.lemmas.proofs.Recursion.{sum-append}
use Rattle.lane_ascii.specs.{Flags.flags_set, Flags.IsNthFlag, Flags.IsSought, declared.bits.Sought.Sought}
use lib.Lanes.{mask_l}

low-lt : (k : ℕ) (fs : List Bool) → mask_l (take k fs) < 2 ^ k
low-lt k fs = let few : length (take k fs) ≤ k = omega (arith, length-take k fs) in omega (arith, mask_l-lt (take k fs), pow_mono few)

mask-split : (k : ℕ) (fs : List Bool) → mask_l fs ≡ mask_l (drop k fs) * 2 ^ k + mask_l (take k fs)
mask-split zero fs = omega arith
mask-split (suc k) [] = omega arith
mask-split (suc k) (f ∷ fs) = omega (arith, mask-split k fs, ap (λ p. mask_l (drop k fs) * p) (pow-suc 2 k))

-- the bits that begin at k
pub mask-drop : (k : ℕ) (fs : List Bool) → mask_l fs / 2 ^ k ≡ mask_l (drop k fs)
mask-drop k fs = ap (λ m. m / 2 ^ k) (mask-split k fs) ∙ shr_high (mask_l (drop k fs)) k (mask_l (take k fs)) (low-lt k fs)

-- the bits below k
pub mask-take : (k : ℕ) (fs : List Bool) → mask_l fs % 2 ^ k ≡ mask_l (take k fs)
mask-take k fs = ap (λ m. m % 2 ^ k) (mask-split k fs) ∙ mod_low (mask_l (drop k fs)) k (mask_l (take k fs)) (low-lt k fs)

ones-mask : (fs : List Bool) → count_ones (mask_l fs) ≡ flags_set fs
unfolding count_ones
ones-mask [] = refl
ones-mask (f ∷ fs) = ones-mask_l_cons f fs ∙ ap (λ n. cond f 1 0 + n) (ones-mask fs)

pub ones_of : {mask : ℕ} (fs : List Bool) → mask ≡ mask_l fs → count_ones mask ≡ flags_set fs
ones_of fs is = ap count_ones is ∙ ones-mask fs

set-append : (fs gs : List Bool) → flags_set (fs ++ gs) ≡ flags_set fs + flags_set gs
set-append = sum-append flags_set _ refl (λ _ _. refl)

pub set-le : (fs : List Bool) → flags_set fs ≤ length fs
set-le [] = omega arith
set-le (f ∷ fs) = grind (arith, cases_Bool f, set-le fs)

-- the flags of a block, counted on
pub set-more : (fs : List Bool) (at n : ℕ) → flags_set (take (at + n) fs) ≡ flags_set (take at fs) + flags_set (take n (drop at fs))
set-more fs at n = ap flags_set (take-add at n fs) ∙ set-append (take at fs) (take n (drop at fs))

-- and those after it
pub set-rest : (fs : List Bool) (at : ℕ) → flags_set fs ≡ flags_set (take at fs) + flags_set (drop at fs)
set-rest fs at = ap flags_set (sym (take-append-drop at fs)) ∙ set-append (take at fs) (drop at fs)

-- the lower half of the bits
lower : (fs : List Bool) (w bits : ℕ) → bits ≡ mask_l (take (w + w) fs) → bits % 2 ^ w ≡ mask_l (take w fs)
lower fs w bits is = ap (λ b. b % 2 ^ w) is ∙ mask-take w (take (w + w) fs) ∙ ap mask_l (take-take w (w + w) fs (omega arith))

lower_set : (fs : List Bool) (w bits low : ℕ) → bits ≡ mask_l (take (w + w) fs) → low ≡ bits % 2 ^ w → count_ones low ≡ flags_set (take w fs)
lower_set fs w bits low is cut = ones_of (take w fs) (cut ∙ lower fs w bits is)

pub in_lower : (fs : List Bool) (n w low : ℕ) (s : Sought) → IsSought fs n (w + w) s → low ≡ s.bits % 2 ^ w → s.left < count_ones low
    → IsSought fs n w (record { bits = low; left = s.left; at = s.at })
in_lower fs n w low s h cut less = record {
  bits = cut ∙ lower (drop s.at fs) w s.bits h.bits;
  before = h.before;
  among = omega (arith, lower_set (drop s.at fs) w s.bits low h.bits cut);
}

pub in_upper : (fs : List Bool) (n w low : ℕ) (s : Sought) → IsSought fs n (w + w) s → low ≡ s.bits % 2 ^ w → count_ones low ≤ s.left
    → IsSought fs n w (record { bits = s.bits / 2 ^ w; left = s.left - count_ones low; at = s.at + w })
in_upper fs n w low s h cut more =
    let rest = drop s.at fs in
    let below = lower_set rest w s.bits low h.bits cut in
    let upper : take w (drop w rest) ≡ take w (drop (s.at + w) fs) = ap (take w) (drop-drop w s.at fs) in
    record {
      bits = ap (λ b. b / 2 ^ w) h.bits ∙ mask-drop w (take (w + w) rest) ∙ ap mask_l (drop-take w w rest ∙ upper);
      before = omega (arith, h.before, below, set-more fs s.at w);
      among = omega (arith, h.among, below, set-more rest w w, ap flags_set upper);
    }

pub from_all : (fs : List Bool) (n mask : ℕ) → length fs ≤ 64 → mask ≡ mask_l fs → n < flags_set fs
    → IsSought fs n 64 (record { bits = mask; left = n; at = 0 })
from_all fs n mask few is less =
    let whole : take 64 fs ≡ fs = take_all 64 fs few in
    record { bits = is ∙ ap mask_l (sym whole); before = omega arith; among = omega (arith, ap flags_set whole) }

one_left : (fs : List Bool) (at left : ℕ) → left < flags_set (take 1 (drop at fs)) → (at < length fs) × (slice_get fs at ≡ Some true) × (left ≡ 0)
one_left (true ∷ fs) zero left h = (omega arith, refl, omega arith)
one_left (f ∷ fs) (suc at) left h = let r = one_left fs at left h in (omega (arith, r.0), r.1, r.2)
one_left [] (suc at) left h = absurd (omega arith)
one_left fs at left h = absurd (omega arith)

pub found : (fs : List Bool) (n : ℕ) (s : Sought) → IsSought fs n 1 s → IsNthFlag fs n s.at
found fs n s h = let r = one_left fs s.at s.left h.among in record { within = r.0; before = omega (arith, h.before, r.2); is = r.1 }

-- what is set in a part of the flags is set at its place in all of them
pub nth_behind : (fs : List Bool) (at k r : ℕ) → IsNthFlag (drop at fs) k r → IsNthFlag fs (flags_set (take at fs) + k) (at + r)
nth_behind fs at k r h =
    let within : at + r < length fs = omega (arith, h.within, length-drop at fs) in
    record {
      within = within;
      before = set-more fs at r ∙ ap (λ m. flags_set (take at fs) + m) h.before;
      is = slice_get-get_or fs (at + r) true within ∙ ap Some (sym (get_or-drop at fs r true) ∙ get_or_from_slice_get (drop at fs) r true true h.is);
    }

pub nth_in : (fs : List Bool) (at m k r : ℕ) → IsNthFlag (take m (drop at fs)) k r → IsNthFlag fs (flags_set (take at fs) + k) (at + r)
nth_in fs at m k r h =
    let rest = drop at fs in
    let few : r < m = omega (arith, h.within, length-take m rest) in
    let within : r < length rest = omega (arith, h.within, length-take m rest) in
    nth_behind fs at k r (record {
      within = within;
      before = ap flags_set (sym (take-take r m rest (omega (arith, few)))) ∙ h.before;
      is = slice_get-get_or rest r true within ∙ ap Some (sym (get_or-take m rest r true few) ∙ get_or_from_slice_get (take m rest) r true true h.is);
    })
