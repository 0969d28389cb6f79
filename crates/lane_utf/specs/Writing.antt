-- What is written at the end of what was written so far.
use Rattle.std.specs.Prelude.{◌≡◌, ℕ, ◌+◌, List, ◌++◌, length, take, drop}

-- A whole is written over the front of a slice. Its first `written` items are written, tail is still to come, and what
-- was after the whole is unchanged.
pub record IsWriting (whole : List ℕ) (written : ℕ) (out old tail : List ℕ) : Type 0 where
  pub so_far : take written out ++ tail ≡ whole
  pub count : written + length tail ≡ length whole
  pub kept : drop (length whole) out ≡ drop (length whole) old
