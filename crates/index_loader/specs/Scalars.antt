-- Numbers as Unicode scalar values (Unicode, chapter 3, D76).
use Rattle.std.specs.Prelude.{ℕ, Option, Some, None, if◌then◌else◌}
use lib.Utf8.{scalar}

-- the number, where it is a scalar value
abbrev pub as_scalar : ℕ → Option ℕ
as_scalar n = if scalar n then Some n else None
