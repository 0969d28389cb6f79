-- Functions by recursion over a list: sums, and walks from state to state. Each takes its function with the two equations that define it.
use Rattle.std.proofs.Common.{◌≡◌, sym, ap, ◌∙◌, ℕ, ◌+◌, ◌*◌, ◌≤◌, List, [], ◌∷◌, ◌++◌, length, arith, mul-suc}

module _ {X : Type 0} (F : List X → ℕ) (f : X → ℕ) (none : F [] ≡ 0) (more : (x : X) (xs : List X) → F (x ∷ xs) ≡ f x + F xs) where
  pub sum-append : (xs ys : List X) → F (xs ++ ys) ≡ F xs + F ys
  sum-append [] ys = omega (arith, none)
  sum-append (x ∷ xs) ys = omega (arith, more x xs, more x (xs ++ ys), sum-append xs ys)

  pub sum-few : (most : ℕ) → ((x : X) → f x ≤ most) → (xs : List X) → F xs ≤ most * length xs
  sum-few most each [] = omega (arith, none)
  sum-few most each (x ∷ xs) = omega (arith, more x xs, each x, sum-few most each xs, mul-suc most (length xs))

-- one for each element
pub sum-ones : {X : Type 0} (F : List X → ℕ) → F [] ≡ 0 → ((x : X) (xs : List X) → F (x ∷ xs) ≡ 1 + F xs) → (xs : List X) → F xs ≡ length xs
sum-ones F none more [] = none
sum-ones F none more (x ∷ xs) = omega (arith, more x xs, sum-ones F none more xs)

-- the state in which a walk ends
module _ {S X : Type 0} (end : S → List X → S) (step : S → X → S) (none : (s : S) → end s [] ≡ s)
    (more : (s : S) (x : X) (xs : List X) → end s (x ∷ xs) ≡ end (step s x) xs) where
  pub walk-append : (s : S) (xs ys : List X) → end s (xs ++ ys) ≡ end (end s xs) ys
  walk-append s [] ys = ap (λ t. end t ys) (sym (none s))
  walk-append s (x ∷ xs) ys = more s x (xs ++ ys) ∙ walk-append (step s x) xs ys ∙ ap (λ t. end t ys) (sym (more s x xs))

-- what a walk counts at its elements
module _ {S X : Type 0} (F : S → List X → ℕ) (count : S → X → ℕ) (step : S → X → S) (nothing : (s : S) → F s [] ≡ 0)
    (counted : (s : S) (x : X) (xs : List X) → F s (x ∷ xs) ≡ count s x + F (step s x) xs) where
  pub counts-few : ((s : S) (x : X) → count s x ≤ 1) → (s : S) (xs : List X) → F s xs ≤ length xs
  counts-few each s [] = omega (arith, nothing s)
  counts-few each s (x ∷ xs) = omega (arith, counted s x xs, each s x, counts-few each (step s x) xs)

  module _ (end : S → List X → S) (none : (s : S) → end s [] ≡ s) (more : (s : S) (x : X) (xs : List X) → end s (x ∷ xs) ≡ end (step s x) xs) where
    pub counts-append : (s : S) (xs ys : List X) → F s (xs ++ ys) ≡ F s xs + F (end s xs) ys
    counts-append s [] ys = omega (arith, nothing s, ap (λ t. F t ys) (none s))
    counts-append s (x ∷ xs) ys =
        omega (arith, counted s x xs, counted s x (xs ++ ys), counts-append (step s x) xs ys, ap (λ t. F t ys) (more s x xs))
