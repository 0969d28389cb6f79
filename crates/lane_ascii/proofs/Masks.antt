-- Masks of vectors.
use Rattle.std.proofs.Common.{◌≡◌, ℕ, ◌%◌, ◌^◌, ◌≤◌, leb, eqb, cond, Bool, true, List, [], ◌∷◌, map, length, refl, ap, ap₂, ◌∙◌, arith, w8, Fits}
use Rattle.std.proofs.lemmas.{Bool.agree_below, Bool.agree_below_at, Simd.mask_l-mod, List.length-map}
use lib.Lanes.{mask_l, top, Each1}

-- a lane of a comparison
abbrev pub at_most : ℕ → ℕ → ℕ
at_most a b = cond (leb a b) 255 0

abbrev pub equal : ℕ → ℕ → ℕ
equal a b = cond (eqb a b) 255 0

-- the flags of a class
pub each_byte : (f : ℕ → ℕ) (p : ℕ → Bool) → agree_below (λ b. top 7 (f b)) p 256 ≡ true → (v : List ℕ) → Each1 (Fits w8) v → map (top 7) (map f v) ≡ map p v
each_byte f p all [] fits = refl
each_byte f p all (b ∷ bs) fits = ap₂ (λ x xs. x ∷ xs) (agree_below_at (λ x. top 7 (f x)) p 256 b all fits.0.fits) (each_byte f p all bs fits.1)

-- a mask that is computed lane by lane is held to a class at each of the 256 bytes
pub mask_of_class : (f : ℕ → ℕ) (p : ℕ → Bool) (v z : List ℕ) → length v ≤ 64 → Each1 (Fits w8) v → z ≡ map f v → agree_below (λ b. top 7 (f b)) p 256 ≡ true
    → mask_l (map (top 7) z) % 2 ^ 64 ≡ mask_l (map p v)
mask_of_class f p v z few fits lanes all =
    ap (λ xs. mask_l xs % 2 ^ 64) (ap (map (top 7)) lanes ∙ each_byte f p all v fits) ∙ mask_l-mod (map p v) 64 (omega (arith, length-map v p))
