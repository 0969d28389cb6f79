-- Tests: their two cases, as bits and as lanes.
use Rattle.std.proofs.Common.{◌≡◌, refl, ℕ, suc, ◌+◌, ◌*◌, ◌≤◌, Bool, true, false, cond, arith, ltb}
use Rattle.std.proofs.lemmas.Bool.{cases_Bool}
use lib.Lanes.{top}

pub by_test : {A : Type 0} (b : Bool) → (b ≡ true → A) → (b ≡ false → A) → A
by_test true p q = p refl
by_test false p q = q refl

-- the lowest bit of a number without bits, and the others
pub lowest_clear : (b : Bool) (n : ℕ) → cond b 1 0 + 2 * n ≡ 0 → (b ≡ false) × (n ≡ 0)
lowest_clear true n e = absurd (omega arith)
lowest_clear false n e = (refl, omega arith)

-- a count that continues while a test holds, and is past its first element
pub passes : (b : Bool) (n m : ℕ) → suc n ≤ cond b (1 + m) 0 → (b ≡ true) × (n ≤ m)
passes true n m h = (refl, omega arith)
passes false n m h = absurd (omega arith)

-- the highest bit of a lane that says whether one number is below another
pub top-below : (x y : ℕ) → top 7 (cond (ltb x y) 255 0) ≡ ltb x y
top-below x y = grind (arith, cases_Bool (ltb x y))
