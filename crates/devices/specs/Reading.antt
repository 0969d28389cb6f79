-- Bytes that are read to the end and taken.
use Rattle.std.specs.Prelude.{◌≡◌, ℕ, ◌+◌, ◌≤◌, ◌^◌, List, [], ◌∷◌, ◌++◌, take, Option, Result, Ok, Err}
use Rattle.std.specs.Io.KnownBytes.{Consumes, IsAtEnd}
use Rattle.devices.specs.declared.reading.Stop.{Stop}
use Rattle.devices.specs.declared.reading.Stop.TheVariants as stop
use Rattle.devices.specs.declared.reading.Progress.{Progress, TheVariants.More, TheVariants.End}
use Rattle.devices.specs.Devices.{Reads}

-- the most reads
abbrev pub most_reads : ℕ
most_reads = 2 ^ 32

-- the most bytes that these return
abbrev pub most_bytes : ℕ
most_bytes = 2 ^ 44

-- ---- the reader's numbers

-- how reading ended
pub data Ending : Type 0 where
  -- the end was reported
  AtEnd : Ending
  -- a read failed
  ReadFailed : Ending
  -- there were the most reads, and no end
  GivenUp : Ending
  -- something else, before the end was reported
  BrokenOff : Ending

-- how many of the reads reported the end
abbrev pub ends_of : Ending → ℕ
ends_of AtEnd = 1
ends_of ending = 0

-- how many of the reads failed
abbrev pub failures_of : Ending → ℕ
failures_of ReadFailed = 1
failures_of ending = 0

-- where the end was reported, nothing is left
abbrev pub NoneLeft : Ending → Option (List ℕ) → Type 0
NoneLeft AtEnd left = IsAtEnd left
NoneLeft ending left = Unit {0}

-- the number of reads before and after
abbrev pub IsReadUp : Ending → ℕ → ℕ → Type 0
IsReadUp GivenUp old new = new ≡ old + most_reads
IsReadUp ending old new = new ≤ old + most_reads

-- A reader was read until reading ended so.
pub record ReadUp (ending : Ending) (old new : Reads) : Type 0 where
  pub end : NoneLeft ending new.left
  pub ends : new.ends ≡ old.ends + ends_of ending
  pub reads : IsReadUp ending old.reads new.reads
  pub failures : new.failures ≡ old.failures + failures_of ending

-- ---- the bytes

-- Bytes were read, which the reader's reads returned and of which this holds.
pub record ReadSo (Holds : List ℕ → Type 0) (old new : Reads) : Type 0 where
  pub read : List ℕ
  pub received : new.received ≡ old.received ++ read
  pub consumes : Consumes old.left new.left read
  pub holds : Holds read

-- these parts were taken one after another, the last of them named first
abbrev pub TakesEach : {S : Type 0} → (List ℕ → S → S → Type 0) → List (List ℕ) → S → S → Type 0
TakesEach Takes [] s t = t ≡ s
TakesEach {S} Takes (part ∷ parts) s t = (mid : S) × TakesEach Takes parts s mid × Takes part mid t

abbrev pub joined : List (List ℕ) → List ℕ
joined [] = []
joined (part ∷ parts) = joined parts ++ part

-- The bytes were taken, one part after another.
pub record Taken {S : Type 0} (Takes : List ℕ → S → S → Type 0) (bytes : List ℕ) (s t : S) : Type 0 where
  pub parts : List (List ℕ)
  pub is : bytes ≡ joined parts
  pub each : TakesEach Takes parts s t

-- A front of the bytes was taken, and then taking the rest stopped.
pub record TakenUntil {S : Type 0} (Takes Stops : List ℕ → S → S → Type 0) (bytes : List ℕ) (s t : S) : Type 0 where
  pub first : List ℕ
  pub rest : List ℕ
  pub is : bytes ≡ first ++ rest
  pub mid : S
  pub taken : Taken Takes first s mid
  pub stops : Stops rest mid t

-- a front of the bytes was taken at once, by the answer, which is its length
abbrev pub TakesFront : {F S : Type 0} → (List ℕ → S → S → Type 0) → (F → List ℕ → S → S → Type 0) → Result ℕ F → List ℕ → S → S → Type 0
TakesFront Takes Stops (Ok n) bytes s t = Takes (take n bytes) s t
TakesFront Takes Stops (Err f) bytes s t = Stops f bytes s t

-- all of the bytes were taken, by the answer
abbrev pub TakesAll : {A F S : Type 0} → (List ℕ → S → S → Type 0) → (F → List ℕ → S → S → Type 0) → Result A F → List ℕ → S → S → Type 0
TakesAll Takes Stops (Ok x) bytes s t = Taken Takes bytes s t
TakesAll Takes Stops (Err f) bytes s t = TakenUntil Takes (Stops f) bytes s t

-- bytes were read and taken, by the answer
abbrev pub Pumps : {A F S : Type 0} → (List ℕ → S → S → Type 0) → (F → List ℕ → S → S → Type 0) → Result A (Stop F) → Reads → Reads → S → S → Type 0
Pumps Takes Stops (Err (stop.Taker f)) old new s t = ReadSo (λ read. TakenUntil Takes (Stops f) read s t) old new
Pumps Takes Stops r old new s t = ReadSo (λ read. Taken Takes read s t) old new

-- how reading ended, by the answer
abbrev pub ended : {A F : Type 0} → Result A (Stop F) → Ending
ended (Ok x) = AtEnd
ended (Err stop.Read) = ReadFailed
ended (Err stop.TooManyReads) = GivenUp
ended (Err (stop.Taker f)) = BrokenOff

-- how one read went
abbrev pub ended_once : {F : Type 0} → Result Progress (Stop F) → Ending
ended_once (Ok More) = BrokenOff
ended_once (Ok End) = AtEnd
ended_once (Err f) = ended {A = Progress} (Err f)
