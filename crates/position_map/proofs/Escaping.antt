-- Whether bytes begin with an escape, their first three say.
use Rattle.std.proofs.Common.{ℕ, ◌≡◌, refl, ◌-◌, List, [], ◌∷◌, length, length-drop, take, drop, min, arith}
use Rattle.position_map.specs.Plan.{begins_with_escape}

begins-take : (xs : List ℕ) (n : ℕ) → n ≡ min (length xs) 3 → begins_with_escape (take n xs) ≡ begins_with_escape xs
begins-take [] n e = let k : n ≡ 0 = omega (arith, e) in rw k refl
begins-take (a ∷ []) n e = let k : n ≡ 1 = omega (arith, e) in rw k refl
begins-take (a ∷ b ∷ []) n e = let k : n ≡ 2 = omega (arith, e) in rw k refl
begins-take (a ∷ b ∷ c ∷ rest) n e = let k : n ≡ 3 = omega (arith, e) in rw k refl

pub begins_at : (bytes : List ℕ) (at n : ℕ) → n ≡ min (length bytes - at) 3 → begins_with_escape (take n (drop at bytes)) ≡ begins_with_escape (drop at bytes)
begins_at bytes at n e = begins-take (drop at bytes) n (rw (length-drop at bytes) e)
