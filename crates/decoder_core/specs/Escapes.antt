-- Escapes: three bytes that give no item.
use Rattle.std.specs.Prelude.{◌≡◌, ℕ, ◌≤◌, List, [], length, take, get_or, Some}
use Rattle.decoder_core.specs.{Forms.holds, Queue.Table, Queue.feed}

-- the bytes begin with an escape, after which the decoder is in this state
pub record IsEscape {S : Type 0} (table : Table S) (s : S) (bytes : List ℕ) (after : S) : Type 0 where
  pub within : 3 ≤ length bytes
  pub fed : feed table s (take 3 bytes) ≡ record { state = after; items = [] }

-- each of the three bytes at the front is held
pub record IsHeldFront {S : Type 0} (table : Table S) (s : S) (bytes : List ℕ) (after : S) : Type 0 where
  pub within : 3 ≤ length bytes
  pub one : S
  pub two : S
  pub first : table s (Some (get_or bytes 0 0)) ≡ holds one
  pub second : table one (Some (get_or bytes 1 0)) ≡ holds two
  pub third : table two (Some (get_or bytes 2 0)) ≡ holds after
