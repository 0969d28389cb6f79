-- Counts of visits.
use Rattle.std.specs.Prelude.{◌≡◌, ℕ, ◌+◌, ◌^◌, ◌<◌, ◌≤◌}

-- a count that stops at 2^64 - 1 goes from `old` to `new` by `steps` steps
pub record RisesBy (steps old new : ℕ) : Type 0 where
  pub exact : old + steps < 2 ^ 64 → new ≡ old + steps
  pub most : new ≤ old + steps
  pub kept : old ≤ new
