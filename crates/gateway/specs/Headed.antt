-- A trace that may have a head.
use Rattle.std.specs.Prelude.{◌≡◌, ℕ, ◌+◌, ◌<◌, ◌⊎◌, false, List, [], ◌++◌, length, Option, Some, Result, Ok, Err}
use Rattle.desk.specs.Desk.{Office}
use Rattle.devices.specs.{Devices.Reads, Reading.ReadSo}
use Rattle.connections.specs.Traffic.{Traffic}
use Rattle.gateway.specs.declared.traces.fault.TraceFault.{TraceFault}
use Rattle.gateway.specs.declared.traces.fault.TraceFault.TheVariants.{BadLine, Read, Write, TooManyReads, OutOfMemory}
use Rattle.gateway.specs.{Head.HeadOn, Head.HeadIsBad, Head.HeadPlace, Head.FinishesHead, Head.first_place, Head.may_head, Trace.TracesText}

-- the number of a bad line, counted from the start of a trace that has `lines` lines in front
abbrev pub behind : {A : Type 0} → ℕ → Result A TraceFault → Result A TraceFault
behind lines (Err (BadLine n)) = Err (BadLine (lines + n))
behind lines r = r

abbrev pub with_desk : Traffic → Office → Traffic
with_desk t office = record { office = office; lines = t.lines }

-- The text has a head, which was obeyed, and then a line that is none of it: from there on it was played.
pub record BehindHead {A : Type 0} (r : Result A TraceFault) (read : List ℕ) (rest : Option (List ℕ)) (old new : Traffic)
    (before after : Option (List ℕ)) : Type 0 where
  pub head : List ℕ
  pub body : List ℕ
  pub is : read ≡ head ++ body
  pub office : Office
  pub place : HeadPlace
  pub obeyed : HeadOn head old.office office first_place place
  pub ends : place.line ≡ []
  pub over : may_head body ≡ false
  pub some : 0 < length body
  pub answer : Result A TraceFault
  pub numbered : r ≡ behind place.lines answer
  pub traces : TracesText answer body rest (with_desk old office) new before after

-- what was obeyed of a text that is a head, by the answer: all lines, the last of which may lack its line feed; or those that are whole; or
-- those in front of a bad one, or of one for which memory ran out
abbrev pub ObeysText : {A : Type 0} → Result A TraceFault → List ℕ → Option (List ℕ) → Office → Office → Type 0
ObeysText (Ok x) read rest old new =
    (mid : Office) × (place last : HeadPlace) × HeadOn read old mid first_place place × FinishesHead {A = Unit {0}} (Ok tt) mid new place last
ObeysText (Err Read) read rest old new = (place : HeadPlace) × HeadOn read old new first_place place
ObeysText (Err TooManyReads) read rest old new = (place : HeadPlace) × HeadOn read old new first_place place
ObeysText (Err (BadLine n)) read rest old new =
    (front back : List ℕ) × (place : HeadPlace) × (read ≡ front ++ back) × HeadOn front old new first_place place × (n ≡ place.lines + 1)
    × HeadIsBad back (λ later. rest ≡ Some later) new place
ObeysText (Err OutOfMemory) read rest old new = (front back : List ℕ) × (place : HeadPlace) × (read ≡ front ++ back) × HeadOn front old new first_place place
ObeysText (Err Write) read rest old new = ⊥

-- No line came that isn't one of a head: nothing was printed, and no connection opened.
pub record HeadAlone {A : Type 0} (r : Result A TraceFault) (read : List ℕ) (rest : Option (List ℕ)) (old new : Traffic)
    (before after : Option (List ℕ)) : Type 0 where
  pub obeys : ObeysText r read rest old.office new.office
  pub lines : new.lines ≡ old.lines
  pub silent : after ≡ before

-- text was read, which is what the reader's reads returned, and played
abbrev pub TracesHeaded : {A : Type 0} → Result A TraceFault → Traffic → Traffic → Reads → Reads → Option (List ℕ) → Option (List ℕ) → Type 0
TracesHeaded r old new first last before after =
    ReadSo (λ read. HeadAlone r read last.left old new before after ⊎ BehindHead r read last.left old new before after) first last

-- ---- a law

-- A text without a head does what it does without heads: where its first line is none of a head, the whole text is played.
abbrev pub HeadlessTraces : Type 0
HeadlessTraces = (r : Result (Unit {0}) TraceFault) (read : List ℕ) (rest : Option (List ℕ)) (old new : Traffic)
    (before after : Option (List ℕ)) → may_head read ≡ false → BehindHead r read rest old new before after → TracesText r read rest old new before after
