-- A record that is played, part by part. It may begin with a head, as a trace may.
use Rattle.std.specs.Prelude.{◌≡◌, ℕ, ◌+◌, Bool, true, false, List, [], ◌∷◌, ◌++◌, length, take, Option, Some, None, Result, Ok, Err}
use Rattle.devices.specs.{Devices.Reads, Reading.ReadSo, declared.reading.Stop.Stop}
use Rattle.devices.specs.declared.reading.Stop.TheVariants as stop
use Rattle.connections.specs.{Traffic.Traffic, Lines.complete, Lines.unfinished, Clients.Numbered, Clients.OccurAll}
use Rattle.gateway.specs.{Head.Heading, Head.Obeys, Head.IsBadIn, Head.heading, Head.may_head, Trace.is_skipped, Trace.IsBad, Traced.line_events}
use Rattle.records.specs.Records.{NoneRanOut}
use Rattle.records.specs.declared.player.PlayFault.{PlayFault, TheVariants.BadLine, TheVariants.OutOfMemory}

-- how far a record is played: the line that is begun, how many bytes came before it, and, as long as its head isn't over, the bytes of the
-- head's parts since the last document
pub record Place : Type 0 where
  pub line : List ℕ
  pub whole : ℕ
  pub head : Option (List ℕ)

-- ---- one line

-- a line that isn't bad: its events occurred, and no reply reports that memory ran out
abbrev pub PlaysEvents : List ℕ → Traffic → Traffic → Type 0
PlaysEvents line old new = (replies : List Numbered) × OccurAll old (line_events (is_skipped line) line) replies new × NoneRanOut replies × (IsBad line → ⊥)

-- a line was played where a head may go on, by whether it may be one of a head: it was obeyed, or the head is over
abbrev pub PlaysAtHead : Bool → List ℕ → List ℕ → Traffic → Traffic → Option (List ℕ) → Type 0
PlaysAtHead true parts line old new head =
    (more : List ℕ) × Obeys line (heading old.office parts) (heading new.office more) × (new.lines ≡ old.lines) × (head ≡ Some more)
PlaysAtHead false parts line old new head = PlaysEvents line old new × (head ≡ None)

-- a line was played
abbrev pub PlaysNext : Option (List ℕ) → List ℕ → Traffic → Traffic → Option (List ℕ) → Type 0
PlaysNext (Some parts) line old new head = PlaysAtHead (may_head line) parts line old new head
PlaysNext None line old new head = PlaysEvents line old new × (head ≡ None)

-- a line that can't be played
abbrev pub IsBadAtHead : Bool → List ℕ → List ℕ → Traffic → Type 0
IsBadAtHead true parts line old = IsBadIn line (heading old.office parts)
IsBadAtHead false parts line old = IsBad line

abbrev pub IsBadNext : Option (List ℕ) → List ℕ → Traffic → Type 0
IsBadNext (Some parts) line old = IsBadAtHead (may_head line) parts line old
IsBadNext None line old = IsBad line

-- a line was played, by the answer
abbrev pub PlaysLine : {A : Type 0} → Result A PlayFault → Option (List ℕ) → List ℕ → Traffic → Traffic → Option (List ℕ) → Type 0
PlaysLine (Ok x) was line old new is = PlaysNext was line old new is
PlaysLine (Err BadLine) was line old new is = IsBadNext was line old
PlaysLine (Err OutOfMemory) was line old new is = Unit {0}

-- the events of a line, by the answer
abbrev pub PlaysEventLine : {A : Type 0} → Result A PlayFault → List ℕ → Traffic → Traffic → Type 0
PlaysEventLine (Ok x) line old new = PlaysEvents line old new
PlaysEventLine (Err BadLine) line old new = IsBad line
PlaysEventLine (Err OutOfMemory) line old new = Unit {0}

-- a line of the head, by the answer
abbrev pub PlaysHeadLine : {A : Type 0} → Result A PlayFault → List ℕ → Heading → Heading → Type 0
PlaysHeadLine (Ok x) line old new = Obeys line old new
PlaysHeadLine (Err BadLine) line old new = IsBadIn line old
PlaysHeadLine (Err OutOfMemory) line old new = Unit {0}

-- ---- lines, and bytes

-- these lines one after another
abbrev pub PlaysEach : Option (List ℕ) → List (List ℕ) → Traffic → Traffic → Option (List ℕ) → Type 0
PlaysEach was [] old new is = (new ≡ old) × (is ≡ was)
PlaysEach was (line ∷ lines) old new is = (mid : Traffic) × (here : Option (List ℕ)) × PlaysNext was line old mid here × PlaysEach here lines mid new is

-- Bytes were played: the lines that they complete were, and the next line is begun.
pub record PlaysOn (bytes : List ℕ) (old new : Traffic) (was is : Place) : Type 0 where
  pub plays : PlaysEach was.head (complete was.line bytes) old new is.head
  pub begun : is.line ≡ unfinished was.line bytes
  pub count : is.whole + length is.line ≡ was.whole + length was.line + length bytes

-- why bytes aren't played: one of the lines that they complete can't be, behind those before it; or memory ran out
abbrev pub PlayStops : PlayFault → List ℕ → Traffic → Place → Type 0
PlayStops BadLine bytes old was =
    (first : List (List ℕ)) × (last : List ℕ) × (more : List (List ℕ)) × (complete was.line bytes ≡ first ++ last ∷ more)
    × (mid : Traffic) × (here : Option (List ℕ)) × PlaysEach was.head first old mid here × IsBadNext here last mid
PlayStops OutOfMemory bytes old was = Unit {0}

-- by the answer, which is how many of the bytes were played
abbrev pub PlaysFront : Result ℕ PlayFault → List ℕ → Traffic → Traffic → Place → Place → Type 0
PlaysFront (Ok n) bytes old new was is = PlaysOn (take n bytes) old new was is
PlaysFront (Err fault) bytes old new was is = PlayStops fault bytes old was

-- All that was read was played, by the answer; or a line of it can't be.
abbrev pub PlaysRead : {A : Type 0} → Result A (Stop PlayFault) → Reads → Reads → Traffic → Traffic → Place → Place → Type 0
PlaysRead (Err (stop.Taker fault)) first last old new was is = ReadSo (λ read. PlayStops fault read old was) first last
PlaysRead r first last old new was is = ReadSo (λ read. PlaysOn read old new was is) first last

-- ---- laws

-- Played in two parts, bytes are played.
abbrev pub PlaysGoOn : Type 0
PlaysGoOn = (t u v : Traffic) (p q r : Place) (a b : List ℕ) → PlaysOn a t u p q → PlaysOn b u v q r → PlaysOn (a ++ b) t v p r

-- Bytes that can't be played can't be played behind others.
abbrev pub StopsGoOn : Type 0
StopsGoOn = (t u : Traffic) (p q : Place) (a b : List ℕ) (fault : PlayFault) → PlaysOn a t u p q → PlayStops fault b u q → PlayStops fault (a ++ b) t p
