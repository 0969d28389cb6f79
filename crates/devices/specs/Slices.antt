-- A slice that is worked off from its front.
use Rattle.std.specs.Prelude.{◌≡◌, ℕ, ◌+◌, ◌-◌, ◌≤◌, List, ◌++◌, length, take, drop}

-- the elements of `&xs[done..]`
abbrev pub lent : List ℕ → ℕ → List ℕ
lent xs done = take (length xs - done) (drop done xs)

pub record WorksOff : Type 0 where
  -- `xs[..done]` and a front of `&xs[done..]`
  pub more : (xs : List ℕ) (done n : ℕ) → n ≤ length xs - done → take done xs ++ take n (lent xs done) ≡ take (done + n) xs
  -- `xs[..done]` and `&xs[done..]`
  pub rest : (xs : List ℕ) (done : ℕ) → take done xs ++ lent xs done ≡ xs
  -- the borrowed `&xs[done..]` is no longer than what is left
  pub within : (xs : List ℕ) (done n : ℕ) → n ≤ length (lent xs done) → n ≤ length xs - done
