-- The code points of errors among the runs of a piece.
use Rattle.std.proofs.Common.{ℕ, ℤ, subst, ◌≡◌, refl, sym, ap, ◌∙◌, zero, suc, Bool, cond, nat_lt, pos, ◌-ℤ◌, count_by}
use Rattle.position_map.proofs.Words.{◌+◌, ◌-◌, ◌<◌, ◌≤◌, ◌⊎◌, inl, inr, true, false, min, List, [], ◌∷◌, ◌++◌, length, drop, Some, arith, slice_get, nat_tests}
use Rattle.position_map.proofs.Words.{count_by-le-length, sum_by-append, sum_by-cons, one_if, Ended, all_scalars, errors_in, ItemKind, AsciiError, RomanError}
use Rattle.position_map.proofs.Words.{KatakanaError, Jis0208Error, Run, item_of_kind, items_of_run, items_of_runs, items_until, error_scalars, by_test, by_le}
use Rattle.lemmas.proofs.{Lists.first-rest, Recursion.sum-append}

-- how many numbers are below one
abbrev pub below : ℕ → List ℕ → ℕ
below m ss = count_by (λ (s : ℕ). nat_lt s m) ss

pub below-append : (m : ℕ) (xs ys : List ℕ) → below m (xs ++ ys) ≡ below m xs + below m ys
below-append m xs ys = sum_by-append (λ (s : ℕ). cond (nat_lt s m) 1 0) xs ys

below-cons : (m s : ℕ) (ss : List ℕ) → below m (s ∷ ss) ≡ cond (nat_lt s m) 1 0 + below m ss
below-cons m s ss = sum_by-cons (λ (x : ℕ). cond (nat_lt x m) 1 0) s ss

pub below-yes : (m s : ℕ) (ss : List ℕ) → s < m → below m (s ∷ ss) ≡ 1 + below m ss
below-yes m s ss h = let t : nat_lt s m ≡ true = grind (arith, nat_tests) in below-cons m s ss ∙ ap (λ b. cond b 1 0 + below m ss) t

pub below-no : (m s : ℕ) (ss : List ℕ) → m ≤ s → below m (s ∷ ss) ≡ below m ss
below-no m s ss h = let t : nat_lt s m ≡ false = grind (arith, nat_tests) in below-cons m s ss ∙ ap (λ b. cond b 1 0 + below m ss) t ∙ omega arith

-- items in a row
pub error_scalars-append : (n : ℕ) (xs ys : List Ended) → error_scalars n (xs ++ ys) ≡ error_scalars n xs ++ error_scalars (n + all_scalars xs) ys
error_scalars-append n [] ys = let e : n ≡ n + 0 = omega arith in ap (λ m. error_scalars m ys) e
error_scalars-append n (x ∷ xs) ys =
    let e : n + x.scalars + all_scalars xs ≡ n + all_scalars (x ∷ xs) = omega arith in
    let rest = error_scalars-append (n + x.scalars) xs ys in
    by_test x.error (λ t. rw (t, rest, e) refl) (λ t. rw (t, rest, e) refl)

pub error_scalars-length : (n : ℕ) (es : List Ended) → length (error_scalars n es) ≡ errors_in es
error_scalars-length n [] = refl
error_scalars-length n (e ∷ es) =
    let rest = error_scalars-length (n + e.scalars) es in by_test e.error (λ t. rw t (omega (arith, rest))) (λ t. rw t (omega (arith, rest)))

-- items that are all errors, each of one code point, or of which none is
abbrev pub AreAlike : Bool → List Ended → Type 0
AreAlike b [] = Unit {0}
AreAlike b (e ∷ es) = (e.error ≡ b) × (e.error ≡ true → e.scalars ≡ 1) × AreAlike b es

error_one : (kind : ItemKind) (z : ℤ) → (item_of_kind kind z).error ≡ true → (item_of_kind kind z).scalars ≡ 1
error_one AsciiError z e = refl
error_one RomanError z e = refl
error_one KatakanaError z e = refl
error_one Jis0208Error z e = refl
error_one _ z e = cc

alike-snoc : (b : Bool) (es : List Ended) (e : Ended) → AreAlike b es → e.error ≡ b → (e.error ≡ true → e.scalars ≡ 1) → AreAlike b (es ++ e ∷ [])
alike-snoc b [] e h k l = (k, l, tt)
alike-snoc b (x ∷ es) e h k l = (h.0, h.1, alike-snoc b es e h.2 k l)

until-alike : (kind : ItemKind) (step : ℕ) (last z : ℤ) (n : ℕ) → AreAlike (item_of_kind kind z).error (items_until kind step last n)
until-alike kind step last z zero = tt
until-alike kind step last z (suc n) =
    alike-snoc (item_of_kind kind z).error (items_until kind step (last -ℤ pos step) n) (item_of_kind kind last)
    (until-alike kind step (last -ℤ pos step) z n) refl (error_one kind last)

pub either_run : (r : Run) → AreAlike true (items_of_run r) ⊎ AreAlike false (items_of_run r)
either_run r =
    let w = until-alike r.kind r.step r.last r.last (suc r.more) in
    by_test (item_of_kind r.kind r.last).error (λ t. inl (subst (λ b. AreAlike b (items_of_run r)) t w))
    (λ t. inr (subst (λ b. AreAlike b (items_of_run r)) t w))

-- items that are all errors
pub errors-count : (es : List Ended) → AreAlike true es → (errors_in es ≡ length es) × (all_scalars es ≡ length es)
errors-count [] h = (refl, refl)
errors-count (e ∷ es) h = let w = errors-count es h.2 in (omega (arith, ap one_if h.0, w.0), omega (arith, h.1 h.0, w.1))

below-step : (m s : ℕ) (ss : List ℕ) (k : ℕ) → below m ss ≡ min k (m - (s + 1)) → below m (s ∷ ss) ≡ min (suc k) (m - s)
below-step m s ss k e = by_le m s (λ h. omega (arith, below-no m s ss h, e, h)) (λ h. omega (arith, below-yes m s ss h, e, h))

errors-below : (m n : ℕ) (es : List Ended) → AreAlike true es → below m (error_scalars n es) ≡ min (length es) (m - n)
errors-below m n [] h = let none : below m [] ≡ 0 = refl in omega (arith, none)
errors-below m n (e ∷ es) h =
    let next : n + e.scalars ≡ n + 1 = omega (arith, h.1 h.0) in
    rw h.0 (below-step m n (error_scalars (n + e.scalars) es) (length es) (errors-below m (n + e.scalars) es h.2 ∙ ap (λ v. min (length es) (m - v)) next))

-- items of which none is one
others-none : (n : ℕ) (es : List Ended) → AreAlike false es → error_scalars n es ≡ []
others-none n [] h = refl
others-none n (e ∷ es) h = rw h.0 (others-none (n + e.scalars) es h.2)

pub others-count : (n : ℕ) (r : Run) → AreAlike false (items_of_run r) → errors_in (items_of_run r) ≡ 0
others-count n r h = sym (error_scalars-length n (items_of_run r)) ∙ ap length (others-none n (items_of_run r) h)

-- the errors of a run
run-below : (m n : ℕ) (r : Run) → below m (error_scalars n (items_of_run r)) ≡ min (errors_in (items_of_run r)) (m - n)
run-below m n r =
    elim (either_run r) [
      | inl h ↦ omega (arith, errors-below m n (items_of_run r) h, (errors-count (items_of_run r) h).0)
      | inr h ↦ let none : below m [] ≡ 0 = refl in omega (arith, ap (below m) (others-none n (items_of_run r) h), none, others-count n r h)
    ]

-- an error has a code point
pub run-few : (r : Run) → errors_in (items_of_run r) ≤ all_scalars (items_of_run r)
run-few r = elim (either_run r) [ inl h ↦ omega (arith, errors-count (items_of_run r) h) | inr h ↦ omega (arith, others-count 0 r h) ]

-- the first run, and the others
pub items-first : (rs : List Run) (r : Run) → slice_get rs 0 ≡ Some r → items_of_runs rs ≡ items_of_run r ++ items_of_runs (drop 1 rs)
items-first rs r h = ap items_of_runs (first-rest rs r h)

module _ (rs : List Run) (r : Run) (h : slice_get rs 0 ≡ Some r) where
  pub scalars-first : all_scalars (items_of_runs rs) ≡ all_scalars (items_of_run r) + all_scalars (items_of_runs (drop 1 rs))
  scalars-first = ap all_scalars (items-first rs r h) ∙ sum-append all_scalars _ refl (λ _ _. refl) (items_of_run r) (items_of_runs (drop 1 rs))

  module _ (n : ℕ) where
    abbrev pub rest : List ℕ
    rest = error_scalars (n + all_scalars (items_of_run r)) (items_of_runs (drop 1 rs))

    errors-first : error_scalars n (items_of_runs rs) ≡ error_scalars n (items_of_run r) ++ rest
    errors-first = ap (error_scalars n) (items-first rs r h) ∙ error_scalars-append n (items_of_run r) (items_of_runs (drop 1 rs))

    -- the errors of this run that are counted, and those after it
    pub below-first : (m : ℕ) → below m (error_scalars n (items_of_runs rs)) ≡ min (errors_in (items_of_run r)) (m - n) + below m rest
    below-first m = omega (arith, ap (below m) errors-first, below-append m (error_scalars n (items_of_run r)) rest, run-below m n r)

-- no more errors are counted than there are code points
pub below-few : (m n : ℕ) (rs : List Run) → errors_in (items_of_runs rs) ≤ all_scalars (items_of_runs rs)
    → below m (error_scalars n (items_of_runs rs)) ≤ all_scalars (items_of_runs rs)
below-few m n rs few =
    omega (arith, count_by-le-length (λ (s : ℕ). nat_lt s m) (error_scalars n (items_of_runs rs)), error_scalars-length n (items_of_runs rs), few)
