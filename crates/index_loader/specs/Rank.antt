-- The order of pairs by code point.
use Rattle.std.specs.Prelude.{ℕ, ◌+◌, ◌*◌, ◌<◌, ◌≤◌, Option, Some, None, All, Contains}
use Rattle.std.specs.List.Sorted.{IsNonDecreasingBy}
use Rattle.index_loader.specs.Pairs.{Pairs}

-- a number that grows with the code point, and at one code point with the pointer
abbrev pub rank_of : ℕ × ℕ → ℕ
rank_of pair = pair.1 * 0x1_0000_0000 + pair.0

-- the pairs are in that order, and none has a pointer above all that files may have
pub record IsOrdered (pairs : Pairs) : Type 0 where
  pub rising : IsNonDecreasingBy rank_of pairs
  pub small : All (λ pair. pair.0 ≤ 189000) pairs

-- the last of the pairs up to a code point
pub record LastUpTo (pairs : Pairs) (bound : ℕ) (pair : ℕ × ℕ) : Type 0 where
  pub there : Contains pairs pair
  pub up_to : pair.1 ≤ bound
  pub small : pair.0 ≤ 189000
  pub ranks_last : All (λ other. other.1 ≤ bound → rank_of other ≤ rank_of pair) pairs

-- the pair is the last of those up to a code point, or there is none of them
abbrev pub IsLastUpTo : Pairs → ℕ → Option (ℕ × ℕ) → Type 0
IsLastUpTo pairs bound None = All (λ pair. bound < pair.1) pairs
IsLastUpTo pairs bound (Some last) = LastUpTo pairs bound last
