-- The texts of pieces, read piece by piece.
use Rattle.state_memo.specs.declared.axis.Axis.TheVariants.{Scalar}
use Rattle.piece_rope.proofs.Prelude.{◌≡◌, refl, ap, ◌∙◌, ℕ, suc, ◌+◌, ◌-◌, ◌<◌, ◌≤◌, List, [], ◌∷◌, ◌++◌, take, drop, length, slice_get, Some, arith}
use Rattle.piece_rope.proofs.Prelude.{append_assoc, length-append, take-append-drop, add-one, append-nil, flat_map-append, slice_get_within, drop-append-add}
use Rattle.piece_rope.proofs.Prelude.{IsFirstAbove, Sum, no_sum, joined, measure, Entry, sums_of, entry_sum, here_of, texts_of, take-next, drop-next}
use Rattle.piece_rope.proofs.Counting.{found-low}

pub texts-append : (xs ys : List Entry) → texts_of (xs ++ ys) ≡ texts_of xs ++ texts_of ys
texts-append xs ys = flat_map-append (λ (p : Entry). (here_of p).text) xs ys

pub sums-scalars : (ps : List Entry) → (sums_of ps).scalars ≡ length (texts_of ps)
sums-scalars [] = refl
sums-scalars (p ∷ ps) = omega (arith, (here_of p).summed.scalars, sums-scalars ps, length-append (here_of p).text (texts_of ps))

pub texts-next : (ps : List Entry) (k : ℕ) (p : Entry) → slice_get ps k ≡ Some p
    → length (texts_of (take (suc k) ps)) ≡ length (texts_of (take k ps)) + length (here_of p).text
texts-next ps k p at =
    let all : texts_of (take (suc k) ps) ≡ texts_of (take k ps) ++ (here_of p).text =
    cc (take-next ps k p at, texts-append (take k ps) (p ∷ []), append-nil (here_of p).text) in
    ap length all ∙ length-append (texts_of (take k ps)) (here_of p).text

pub texts-split : (ps : List Entry) (k : ℕ) → texts_of ps ≡ texts_of (take k ps) ++ texts_of (drop k ps)
texts-split ps k = cc (take-append-drop k ps, texts-append (take k ps) (drop k ps))

pub texts-behind : (ps : List Entry) (end : List ℕ) (k : ℕ) (p : Entry) → slice_get ps k ≡ Some p
    → texts_of (drop k ps) ++ end ≡ (here_of p).text ++ (texts_of (drop (k + 1) ps) ++ end)
texts-behind ps end k p at = cc (add-one k, drop-next ps k p at, append_assoc (here_of p).text (texts_of (drop (suc k) ps)) end)

-- the place of the code points that begin at a place
pub record IsTextPlace (ps : List Entry) (target k before : ℕ) : Type 0 where
  pub within : k ≤ length ps
  pub before_is : before ≡ length (texts_of (take k ps))
  pub low : before ≤ target
  pub high : k < length ps → target < length (texts_of (take (suc k) ps))

pub text-place : {ps : List Entry} {target k : ℕ} {s : Sum} → IsFirstAbove (measure Scalar) target no_sum joined entry_sum ps k s
    → IsTextPlace ps target k s.scalars
text-place {ps} {target} {k} {s} found =
    let before : s.scalars ≡ length (texts_of (take k ps)) = ap (λ (t : Sum). t.scalars) found.sum ∙ sums-scalars (take k ps) in
    record {
      within = found.within;
      before_is = before;
      low = found-low (measure Scalar) ps target k s refl found;
      high = λ l. omega (arith, found.behind l, sums-scalars (take (k + 1) ps), ap (λ (n : ℕ). length (texts_of (take n ps))) (add-one k));
    }

module _ {ps : List Entry} {from k before : ℕ} (place : IsTextPlace ps from k before) where
  pub text-from : (end : List ℕ) → drop (from - before) (texts_of (drop k ps) ++ end) ≡ drop from (texts_of ps ++ end)
  text-from end =
      let front = texts_of (take k ps) in
      let rest = texts_of (drop k ps) ++ end in
      let e : from ≡ length front + (from - before) = omega (arith, place.before_is, place.low) in
      cc (e, texts-split ps k, append_assoc front (texts_of (drop k ps)) end, drop-append-add front rest (from - before))

  pub text-enough : (end : List ℕ) (to : ℕ) → from ≤ to → to ≤ length (texts_of ps ++ end) → from - before + (to - from) ≤ length (texts_of (drop k ps) ++ end)
  text-enough end to order within = omega (arith, place.before_is, place.low, order, within, ap length (texts-split ps k), length-append {A = ℕ})

  pub text-within : (p : Entry) → slice_get ps k ≡ Some p → from - before ≤ length (here_of p).text
  text-within p at = omega (arith, place.high (slice_get_within ps k p at), texts-next ps k p at, place.before_is)
