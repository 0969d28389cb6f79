-- What a node becomes where an element is removed below it.
use Rattle.std.specs.Prelude.{◌≡◌, ℕ, ◌+◌, ◌<◌, []}
use Rattle.sum_tree.specs.Row.{Row, IsSound}
use Rattle.sum_tree.specs.declared.shrunk.Shrunk.{Shrunk, TheVariants.Gone, TheVariants.Kept, TheVariants.Short}

abbrev pub shrunk : {T S : Type 0} → Shrunk T S → Row T
shrunk Gone = record { items = []; height = 0; nodes = 0 }
shrunk (Kept r) = r
shrunk (Short r) = r

-- what is left of a node of this height, and of a low one a box in the pool
abbrev pub IsShrunk : {T S : Type 0} → ℕ → ℕ → Shrunk T S → Type 0
IsShrunk h boxes Gone = h ≡ 0
IsShrunk h boxes (Kept r) = IsSound r × (r.height ≡ h)
IsShrunk h boxes (Short r) = IsSound r × (r.height + 1 ≡ h) × (0 < boxes)
