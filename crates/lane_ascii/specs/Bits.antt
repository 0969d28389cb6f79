-- Bits of masks.
use Rattle.std.specs.Prelude.{ℕ, ◌==◌, if◌then◌else◌}
use lib.Count.{count_trailing_zeros}

-- the place of the lowest set bit, or n if none is set
abbrev pub first_set : ℕ → ℕ → ℕ
first_set mask n = if mask == 0 then n else count_trailing_zeros 64 mask
