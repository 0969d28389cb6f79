-- What calls of a device do to its bytes and its numbers.
use Rattle.std.specs.Prelude.{◌≡◌, ℕ, ◌+◌, ◌<◌, ◌≤◌, ◌==◌, ◌&&◌, nat_lt, List, [], ◌++◌, length, take, Option, Some, Result, Ok, Err, if◌then◌else◌}
use Rattle.std.specs.Io.KnownBytes.{Appends}
use Rattle.devices.specs.declared.count.Count.{Count, fold-Count, TheOpen.Count-F}

-- ---- a count without a limit, which has no bytes

abbrev once_more : Count-F ℕ → ℕ
once_more Count-F.Never = 0
once_more (Count-F.After before) = before.value + 1

-- how often
abbrev pub counted : Count → ℕ
counted = fold-Count ℕ once_more

-- ---- devices

-- what contracts know of what is read from
pub record Reads : Type 0 where
  -- the bytes that its reads returned
  pub received : List ℕ
  -- the bytes that are still to be read, if they are known
  pub left : Option (List ℕ)
  -- how often it was read
  pub reads : ℕ
  -- how many of the reads reported the end
  pub ends : ℕ
  -- how many of the reads failed
  pub failures : ℕ

-- what contracts know of what is written to
pub record Writes : Type 0 where
  -- the bytes that its writes took, if they are known; they are for each device here
  pub written : Option (List ℕ)
  -- how often it was written to
  pub writes : ℕ
  -- how many of the writes failed
  pub failures : ℕ

-- what has these bytes left, and wasn't read yet
abbrev pub unread : Option (List ℕ) → Reads
unread known = record { received = []; left = known; reads = 0; ends = 0; failures = 0 }

-- what wasn't written to yet
abbrev pub unwritten : Writes
unwritten = record { written = Some []; writes = 0; failures = 0 }

-- ---- calls

-- the number of failed calls, after one more call
abbrev pub failures_after : {A E : Type 0} → Result A E → ℕ → ℕ
failures_after (Ok x) n = n
failures_after (Err e) n = n + 1

-- The number of reads that reported the end, after one more read: it reported the end where it read no byte into a slice that has room.
abbrev pub ends_after : {E : Type 0} → Result ℕ E → List ℕ → ℕ → ℕ
ends_after (Ok n) room ends = if (n == 0) && nat_lt 0 (length room) then ends + 1 else ends
ends_after (Err e) room ends = ends

-- the bytes that a read returned
abbrev pub read_bytes : {E : Type 0} → Result ℕ E → List ℕ → List ℕ
read_bytes (Ok n) buf = take n buf
read_bytes (Err e) buf = []

-- a front of the bytes was appended, and not all of them
abbrev pub AppendsPart : Option (List ℕ) → Option (List ℕ) → List ℕ → Type 0
AppendsPart old new bytes = (front rest : List ℕ) × (bytes ≡ front ++ rest) × (0 < length rest) × Appends old new front

-- a front of the bytes was appended, perhaps none or all of them
abbrev pub AppendsFront : Option (List ℕ) → Option (List ℕ) → List ℕ → Type 0
AppendsFront old new bytes = (n : ℕ) × (n ≤ length bytes) × Appends old new (take n bytes)
