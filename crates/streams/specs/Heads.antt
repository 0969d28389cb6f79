-- The first bytes of a stream.
use Rattle.std.specs.Prelude.{ℕ, List, [], ◌∷◌, Option, Some, None}
use Rattle.streams.specs.declared.head.Head.{Head, TheVariants.Zero, TheVariants.One, TheVariants.Two, TheVariants.Three}

abbrev pub head_bytes : Head → List ℕ
head_bytes Zero = []
head_bytes (One a) = a ∷ []
head_bytes (Two a b) = a ∷ b ∷ []
head_bytes (Three a b c) = a ∷ b ∷ c ∷ []

-- the first bytes where one follows, if one does
abbrev pub with_next : List ℕ → Option ℕ → List ℕ
with_next bytes None = bytes
with_next [] (Some x) = x ∷ []
with_next (a ∷ []) (Some x) = a ∷ x ∷ []
with_next (a ∷ b ∷ []) (Some x) = a ∷ b ∷ x ∷ []
with_next (a ∷ b ∷ c ∷ rest) (Some x) = a ∷ b ∷ c ∷ rest
