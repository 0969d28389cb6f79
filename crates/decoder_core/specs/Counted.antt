-- What a call counts on the meter.
use Rattle.std.specs.Prelude.{◌≡◌, ℕ, ◌+◌, ◌-◌, ◌^◌, ◌≤◌, min, Result, OnOk}

-- a call that decodes `bytes` bytes counts them, up to 2^64 - 1; where memory is refused it may have counted fewer
pub record Counted {A E : Type 0} (old new bytes : ℕ) (result : Result A E) : Type 0 where
  pub all : OnOk result (new ≡ min (old + bytes) (2 ^ 64 - 1))
  pub least : old ≤ new
  pub most : new ≤ min (old + bytes) (2 ^ 64 - 1)
