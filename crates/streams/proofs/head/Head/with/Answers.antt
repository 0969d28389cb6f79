use Rattle.std.proofs.Common.{◌≡◌, refl, sym, ap, ◌∙◌, ℕ, List, [], ◌∷◌, ◌++◌, take, slice_get, Option}
use Rattle.streams.specs.Heads.{head_bytes, with_next}
use Rattle.streams.specs.declared.head.Head.{Head, TheVariants.Zero, TheVariants.One, TheVariants.Two, TheVariants.Three}
use Rattle.streams.proofs.head.Head.with.Goals as goal

abbrev three : List ℕ → List ℕ → List ℕ
three head bytes = with_next (with_next (with_next head (slice_get bytes 0)) (slice_get bytes 1)) (slice_get bytes 2)

headed : (h : Head) (bytes : List ℕ) → three (head_bytes h) bytes ≡ take 3 (head_bytes h ++ bytes)
headed Zero [] = refl
headed Zero (a ∷ []) = refl
headed Zero (a ∷ b ∷ []) = refl
headed Zero (a ∷ b ∷ c ∷ rest) = refl
headed (One x) [] = refl
headed (One x) (a ∷ []) = refl
headed (One x) (a ∷ b ∷ []) = refl
headed (One x) (a ∷ b ∷ c ∷ rest) = refl
headed (Two x y) [] = refl
headed (Two x y) (a ∷ []) = refl
headed (Two x y) (a ∷ b ∷ []) = refl
headed (Two x y) (a ∷ b ∷ c ∷ rest) = refl
headed (Three x y z) [] = refl
headed (Three x y z) (a ∷ []) = refl
headed (Three x y z) (a ∷ b ∷ []) = refl
headed (Three x y z) (a ∷ b ∷ c ∷ rest) = refl

pub returns : goal.returns
returns c =
    rw (c.with_byte.ensures, c.with_byte-two.ensures, c.with_byte-one.ensures, c.byte_at.ensures, c.byte_at-2.ensures, c.byte_at-3.ensures)
    (headed c.args.self c.args.bytes.now)
