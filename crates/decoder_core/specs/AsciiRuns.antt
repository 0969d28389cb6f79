-- ASCII bytes that are their own code points.
use Rattle.std.specs.Prelude.{◌≡◌, ◌≢◌, ℕ, ◌≤◌, ◌<◌, Bool, false, nat_lt, List, [], Some, take}
use Rattle.std.specs.List.{prefix_len}
use Rattle.lane_ascii.specs.Runs.{is_plain}
use Rattle.decoder_core.specs.declared.{item.Item.TheVariants.One, bulk.Bulk.Bulk, bulk.Stride.TheVariants.Utf8}
use Rattle.decoder_core.specs.declared.ascii_runs.AsciiRuns.{AsciiRuns, TheVariants.None, TheVariants.All, TheVariants.WithoutEscapes}
use Rattle.decoder_core.specs.{Forms.gives, Queue.Table}

-- the bytes of a class
abbrev pub IsOf : AsciiRuns → ℕ → Type 0
IsOf None b = ⊥
IsOf All b = b < 128
IsOf WithoutEscapes b = (b < 128) × (b ≢ 0x0E) × (b ≢ 0x0F) × (b ≢ 0x1B)

-- in this state each byte of the class is its own code point, and leaves the state as it is
abbrev pub TakesAscii : {S : Type 0} → Table S → S → AsciiRuns → Type 0
TakesAscii table s runs = (b : ℕ) → IsOf runs b → table s (Some b) ≡ gives s (One b) []

abbrev pub is_of : AsciiRuns → ℕ → Bool
is_of None b = false
is_of All b = nat_lt b 0x80
is_of WithoutEscapes b = is_plain b

-- the length of the longest prefix of bytes of the class
abbrev pub run_len : AsciiRuns → List ℕ → ℕ
run_len runs bytes = prefix_len (is_of runs) bytes

-- the bytes taken are of the class, and are written unchanged
pub record IsRunBulk (runs : AsciiRuns) (bytes : List ℕ) (bulk : Bulk) (block : List ℕ) : Type 0 where
  pub run : bulk.taken ≤ run_len runs bytes
  pub room : bulk.taken ≤ 1024
  pub as_taken : bulk.written ≡ bulk.taken
  pub stride : bulk.stride ≡ Utf8
  pub copied : take bulk.taken block ≡ take bulk.taken bytes
