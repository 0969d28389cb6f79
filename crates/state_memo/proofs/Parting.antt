-- Texts in two parts: the place behind n code points, which is n where these are ASCII.
use Rattle.std.proofs.Common.{ℕ, ◌≡◌, refl, sym, ap, subst, ◌∙◌, zero, suc, ◌+◌, ◌-◌, ◌<◌, ◌≤◌, Bool, true, false, List, [], ◌∷◌, length, length-append}
use Rattle.std.proofs.Common.{take, drop, slice_index, arith, take-append-drop, Some, None, nat_le, leb-true, if◌then◌else◌}
use Rattle.std.specs.Str.{IsAscii, IsUtf8, IsCharBoundary, chars}
use Rattle.std.proofs.lemmas.{Bool.Decides.nat_tests, List.length-take-le, List.take_at}
use Rattle.std.proofs.lemmas.Str.{chars-append, chars-IsAscii, encodes-IsAscii, IsUtf8-take, IsCharBoundary-after_ascii}
use Rattle.lane_utf.specs.{Selected.scalar_place}
use Rattle.state_memo.{specs.Parts.IsScalarCut, proofs.Numbers.width-encodes}
use Rattle.lemmas.proofs.Texts.{IsCut, IsCut-at}

one_low : (a i : ℕ) → a < 128 → slice_index (a ∷ []) i < 128
one_low a zero h = h
one_low a (suc i) h = omega arith

two_low : (a b i : ℕ) → a < 128 → b < 128 → slice_index (a ∷ b ∷ []) i < 128
two_low a b zero h g = h
two_low a b (suc i) h g = one_low b i g

ascii_front : (bs : List ℕ) (n k : ℕ) → n ≡ k + 1 → n ≤ 2 → n ≤ length bs → slice_index bs 0 < 128 → slice_index bs k < 128 → IsAscii (take n bs)
ascii_front [] n k e l w f g = absurd (omega (arith, e, w))
ascii_front (a ∷ bs) n zero e l w f g = let one : n ≡ suc zero = omega (arith, e) in rw one (λ i. one_low a i f)
ascii_front (a ∷ []) n (suc k) e l w f g = absurd (omega (arith, e, w))
ascii_front (a ∷ b ∷ bs) n (suc zero) e l w f g = let two : n ≡ suc (suc zero) = omega (arith, e) in rw two (λ i. two_low a b i f g)
ascii_front (a ∷ b ∷ bs) n (suc (suc k)) e l w f g = absurd (omega (arith, e, l))

-- where one or two bytes of ASCII are cut off, the place in code points is the one in bytes
pub ascii_place : (text bytes : List ℕ) (n : ℕ) → IsUtf8 text → bytes ≡ text → 0 < n → n ≤ 2 → n ≤ length bytes → slice_index bytes 0 < 128
    → slice_index bytes (n - 1) < 128 → Some n ≡ scalar_place (chars text) n
ascii_place text bytes n u e some short enough first last_low =
    let within : n ≤ length text = rw e at enough in
    let low = rw e at (ascii_front bytes n (n - 1) (omega (arith, some)) short enough first last_low) in
    let last = rw e at last_low in
    let seam : IsCharBoundary text n =
    subst (IsCharBoundary text) (omega (arith, some)) (IsCharBoundary-after_ascii text (n - 1) u (omega (arith, within, some)) last) in
    let split = chars-append (take n text) (drop n text) (IsUtf8-take text n u seam) in
    let whole = rw (take-append-drop n text, chars-IsAscii (take n text) low) at split in
    let count : length (take n text) ≡ n = length-take-le n text within in
    let far : n ≤ length (chars text) = omega (arith, ap length whole, length-append (take n text) (chars (drop n text)), count) in
    let front : take n (chars text) ≡ take n text = ap (take n) whole ∙ take_at (take n text) (chars (drop n text)) n count in
    let test : nat_le n (length (chars text)) ≡ true = grind (arith, nat_tests, far) in
    let wide = rw (encodes-IsAscii (take n text) low) at (width-encodes (take n text)) in
    rw (test, front, ← wide, count) refl

-- the place of a code point that the text has
place_some : (b : Bool) (k at : ℕ) → Some at ≡ (if b then Some k else None) → (b ≡ true) × (at ≡ k)
place_some true k at e = (refl, cc)
place_some false k at e = cc

place_none : (b : Bool) (k : ℕ) → None ≡ (if b then Some k else None) → b ≡ false
place_none true k e = cc
place_none false k e = refl

pub has_place : (text : List ℕ) (n at : ℕ) → Some at ≡ scalar_place (chars text) n → nat_le n (length (chars text)) ≡ true
has_place text n at e = (place_some _ _ at e).0

pub has_none : (text : List ℕ) (n : ℕ) → None ≡ scalar_place (chars text) n → nat_le n (length (chars text)) ≡ false
has_none text n e = place_none _ _ e

pub cut_there : (text : List ℕ) (n at : ℕ) → IsUtf8 text → Some at ≡ scalar_place (chars text) n → IsCut text n at
cut_there text n at u e = IsCut-at text n at u ((place_some _ _ at e).1 ∙ sym (width-encodes (take n (chars text))))

pub IsScalarCut-at : (text front back : List ℕ) (n at : ℕ) → IsUtf8 text → Some at ≡ scalar_place (chars text) n → front ≡ take at text → back ≡ drop at text
    → IsScalarCut (chars text) n (chars front) (chars back)
IsScalarCut-at text front back n at u e ef eb =
    let c = cut_there text n at u e in
    rw (ef, eb, c.front, c.back) (record {
      split = sym (take-append-drop n (chars text));
      count = length-take-le n (chars text) (leb-true n (length (chars text)) (has_place text n at e));
    })
