-- Lines that are answered one after another, and a run over devices.
use Rattle.std.specs.Prelude.{◌≡◌, ℕ, ◌<◌, ◌≢◌, List, [], ◌∷◌, ◌++◌, length, Option, None, Result, Ok, Err}
use Rattle.std.specs.Io.KnownBytes.{Appends}
use Rattle.devices.specs.{Devices.Reads, Reading.Ending, Reading.AtEnd, Reading.ReadFailed, Reading.GivenUp, Reading.BrokenOff, Reading.ReadSo}
use Rattle.connections.specs.declared.serve.RunFault.{RunFault, TheVariants.NotFree, TheVariants.Read, TheVariants.Write, TheVariants.Unkept}
use Rattle.connections.specs.{declared.serve.RunFault.TheVariants.TooManyReads, Lines.complete, Traffic.Traffic, Events.line_at}
use Rattle.desk.specs.Desk.{Office}
use Rattle.line_protocol.specs.Step.{Replies}

-- these texts, one after the other, answer these lines in their order, from one desk to another
abbrev pub Serves : Office → List (List ℕ) → List ℕ → Office → Type 0
Serves old [] out new = (out ≡ []) × (new ≡ old)
Serves old (line ∷ lines) out new =
    (mid : Office) × (text rest : List ℕ) × Replies old line text mid × (out ≡ text ++ rest) × Serves mid lines rest new

-- The replies to the first of the lines, and a front of the next reply but not all of it. The desk took these lines and that one, and no more.
pub record Breaks (old : Office) (lines : List (List ℕ)) (out : List ℕ) (new : Office) : Type 0 where
  pub first : List (List ℕ)
  pub last : List ℕ
  pub more : List (List ℕ)
  pub cut : lines ≡ first ++ last ∷ more
  pub sent : List ℕ
  pub part : List ℕ
  pub unsent : List ℕ
  pub mid : Office
  pub serves : Serves old first sent mid
  pub fails : Replies mid last (part ++ unsent) new
  pub short : 0 < length unsent
  pub front : out ≡ sent ++ part

-- the connections other than c are unchanged
abbrev pub SameOthers : Traffic → Traffic → ℕ → Type 0
SameOthers old new c = (d : ℕ) → d ≢ c → line_at new d ≡ line_at old d

-- Replies to the complete lines of these bytes were written on connection c, in this way, and c is closed.
pub record RanAs (answers : Office → List (List ℕ) → List ℕ → Office → Type 0) (c : ℕ) (read : List ℕ) (old new : Traffic)
    (before after : Option (List ℕ)) : Type 0 where
  pub out : List ℕ
  pub appends : Appends before after out
  pub answered : answers old.office (complete [] read) out new.office
  pub closed : line_at new c ≡ None
  pub others : SameOthers old new c

-- all of them
abbrev pub Ran : ℕ → List ℕ → Traffic → Traffic → Option (List ℕ) → Option (List ℕ) → Type 0
Ran = RanAs Serves

-- those up to one in which the writing broke off
abbrev pub RanUntil : ℕ → List ℕ → Traffic → Traffic → Option (List ℕ) → Option (List ℕ) → Type 0
RanUntil = RanAs Breaks

-- The bytes after a front of these can't be kept: so the replies to the complete lines of the front alone were written on connection c, and c is closed.
pub record RanFront (c : ℕ) (read : List ℕ) (old new : Traffic) (before after : Option (List ℕ)) : Type 0 where
  pub front : List ℕ
  pub unkept : List ℕ
  pub is : read ≡ front ++ unkept
  pub ran : Ran c front old new before after

-- what a run does with the bytes that it reads, by its answer
abbrev pub RunGives : {A : Type 0} → Result A RunFault → ℕ → Traffic → Traffic → Reads → Reads → Option (List ℕ) → Option (List ℕ) → Type 0
RunGives (Err NotFree) c old new first last before after = new ≡ old
RunGives (Err Write) c old new first last before after = ReadSo (λ read. RanUntil c read old new before after) first last
RunGives (Err Unkept) c old new first last before after = ReadSo (λ read. RanFront c read old new before after) first last
RunGives r c old new first last before after = ReadSo (λ read. Ran c read old new before after) first last

-- ---- the devices' numbers, by a run's answer

-- how the reading ended
abbrev pub run_ended : {A : Type 0} → Result A RunFault → Ending
run_ended (Ok x) = AtEnd
run_ended (Err Read) = ReadFailed
run_ended (Err TooManyReads) = GivenUp
run_ended (Err fault) = BrokenOff

-- how many of the writes failed
abbrev pub write_failures_of : {A : Type 0} → Result A RunFault → ℕ
write_failures_of (Err Write) = 1
write_failures_of r = 0
