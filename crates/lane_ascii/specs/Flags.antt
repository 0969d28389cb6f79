-- Flags of elements, which a mask has as its bits.
use Rattle.std.specs.Prelude.{◌≡◌, ℕ, ◌+◌, ◌<◌, Bool, true, List, [], ◌∷◌, length, take, drop, slice_get, Some, if◌then◌else◌}
use Rattle.lane_ascii.specs.declared.bits.Sought.{Sought}
use lib.Lanes.{mask_l}

-- how many are set
abbrev pub flags_set : List Bool → ℕ
flags_set [] = 0
flags_set (f ∷ fs) = (if f then 1 else 0) + flags_set fs

-- the place of a set flag, with n set flags before it
pub record IsNthFlag (flags : List Bool) (n at : ℕ) : Type 0 where
  pub within : at < length flags
  pub before : flags_set (take at flags) ≡ n
  pub is : slice_get flags at ≡ Some true

-- the set flag with n before it is among these `width` bits
pub record IsSought (flags : List Bool) (n width : ℕ) (s : Sought) : Type 0 where
  pub bits : s.bits ≡ mask_l (take width (drop s.at flags))
  pub before : flags_set (take s.at flags) + s.left ≡ n
  pub among : s.left < flags_set (take width (drop s.at flags))
