-- How the pages of a list grow, entry by entry.
use Rattle.std.proofs.Common.{◌≡◌, ℕ, suc, ◌+◌, ◌-◌, ◌*◌, ◌≤◌, List, [], ◌∷◌, ◌++◌, length, take, drop, min, map, slice_get, Some, sym, ap, ◌∙◌, arith}
use Rattle.lemmas.proofs.Lists.{at-behind, take-next}
use Rattle.desk.proofs.Prelude.{length-drop, refl, map-append, take_min, Bounds, lines_of, line_of, page_of}

-- a page with the entry after it
pub page_and_next : {A : Type 0} (xs : List A) (from k : ℕ) (x : A) → slice_get xs (from + k) ≡ Some x
    → take (k + 1) (drop from xs) ≡ take k (drop from xs) ++ x ∷ []
page_and_next xs from k x e =
    let next : k + 1 ≡ suc k = omega arith in
    ap (λ n. take n (drop from xs)) next ∙ take-next (drop from xs) k x (at-behind xs from k (from + k) x refl e)

-- no page has more entries than are left
pub page_of_all_left : {A : Type 0} (xs : List A) (from max : ℕ) → take (min max (length xs - from)) (drop from xs) ≡ take max (drop from xs)
page_of_all_left xs from max = ap (λ n. take (min max n) (drop from xs)) (sym (length-drop from xs)) ∙ take_min max (drop from xs)

-- a page of lines with the line after it
pub page_and_line : (text : List ℕ) (from k : ℕ) (l : Bounds) → slice_get (lines_of text) (from + k) ≡ Some l
    → page_of text from (k + 1) ≡ page_of text from k ++ line_of l ∷ []
page_and_line text from k l e = ap (map line_of) (page_and_next (lines_of text) from k l e) ∙ map-append line_of (take k (drop from (lines_of text))) (l ∷ [])

-- ---- visits

-- a further step that visits no more than each before
pub one_more : (k step old now new : ℕ) → now ≤ old + k * step → new ≤ now + step → new ≤ old + (k + 1) * step
one_more k step old now new h m = omega arith
