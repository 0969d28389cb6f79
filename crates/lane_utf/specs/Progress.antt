-- How far a conversion to UTF-8 has come.
use Rattle.std.specs.{Prelude.◌≡◌, Prelude.ℕ, Prelude.◌+◌, Prelude.◌≤◌, Prelude.List, Prelude.length, Prelude.drop, Prelude.None, Str.encode_utf8_all}
use Rattle.lane_utf.specs.{declared.to_utf8.Reached.Reached, Utf16.code_points, Utf16.first_lone, Writing.IsWriting}

-- `room` bytes have room for the form of the units that are left, behind what is written
abbrev pub HasRoom : List ℕ → Reached → ℕ → Type 0
HasRoom units reached room = reached.written + length (encode_utf8_all (code_points (drop reached.read units))) ≤ room

-- The form of the units read is written over the front of a slice; those that are left have no lone surrogate.
pub record IsUpTo (units out old : List ℕ) (reached : Reached) : Type 0 where
  pub within : reached.read ≤ length units
  pub paired : first_lone (drop reached.read units) ≡ None
  pub writing : IsWriting (encode_utf8_all (code_points units)) reached.written out old (encode_utf8_all (code_points (drop reached.read units)))
