-- What a record says of a gateway.
use Rattle.std.specs.Prelude.{◌≡◌, ◌≢◌, ℕ, ◌<◌, ◌≤◌, List, [], ◌∷◌, ◌++◌, Bool, false, length, take, Option, None, Some, Result, Ok, Err, if◌then◌else◌}
use Rattle.std.specs.{Io.KnownBytes.Appends, Str.bytes_eq}
use Rattle.base64.specs.GeneralPurpose.{IsBytes}
use Rattle.line_protocol.specs.Replies.{memory_text}
use Rattle.connections.specs.{Traffic.Traffic, Lines.has_end, Events.Happening, Events.Opening, Events.Bringing, Events.Closing, Events.gate_fault}
use Rattle.connections.specs.{Events.Happens, Clients.Numbered, Clients.OccurAll, Clients.BegunLines, Clients.StandFor}
use Rattle.connections.specs.declared.gateway.{GateFault.GateFault, Out.Out}
use Rattle.devices.specs.Devices.{AppendsPart}
use Rattle.records.specs.declared.record.EventFault.{EventFault, TheVariants.Refused, TheVariants.Unrecorded, TheVariants.OutOfMemory}
use Rattle.records.specs.Lines.{record_of, events_in, AreRecordable, most_brought}

-- ---- one event

-- whether a reply reports that memory ran out
abbrev pub reports_memory : Option (List ℕ) → Bool
reports_memory None = false
reports_memory (Some text) = bytes_eq text memory_text

-- What is recorded of an event, by how many bytes it took and its reply. Where memory ran out for a line, the line isn't recorded, since it
-- may be answered otherwise when it is played; its connection closes and opens, so that the next line is begun.
abbrev pub recorded_as : Happening → ℕ → Option (List ℕ) → List Happening
recorded_as (Opening c) taken reply = Opening c ∷ []
recorded_as (Bringing c bytes) taken reply = if reports_memory reply then Closing c ∷ Opening c ∷ [] else Bringing c (take taken bytes) ∷ []
recorded_as (Closing c) taken reply = Closing c ∷ []

-- its bytes are some, and not too many
abbrev pub IsShort : Happening → Type 0
IsShort (Opening c) = Unit {0}
IsShort (Bringing c bytes) = (0 < length bytes) × (length bytes ≤ most_brought)
IsShort (Closing c) = Unit {0}

-- each byte is below 256
abbrev pub AreBytes : Happening → Type 0
AreBytes (Opening c) = Unit {0}
AreBytes (Bringing c bytes) = IsBytes bytes
AreBytes (Closing c) = Unit {0}

-- ---- one event, recorded

-- why an event returns no reply, where this is why the gateway refuses it
abbrev pub FaultIs : {A : Type 0} → Result A EventFault → Option GateFault → Type 0
FaultIs (Ok x) fault = fault ≡ None
FaultIs (Err (Refused why)) fault = fault ≡ Some why
FaultIs (Err Unrecorded) fault = fault ≡ None
FaultIs (Err OutOfMemory) fault = fault ≡ None

-- lines were written, by the answer, which is never Refused: all of them, a front of them but not all, or none
abbrev pub Writes : {A : Type 0} → Result A EventFault → List ℕ → Option (List ℕ) → Option (List ℕ) → Type 0
Writes (Ok x) text before after = Appends before after text
Writes (Err (Refused why)) text before after = ⊥
Writes (Err Unrecorded) text before after = AppendsPart before after text
Writes (Err OutOfMemory) text before after = after ≡ before

-- how many of the device's writes failed
abbrev pub record_failures : {A : Type 0} → Result A EventFault → ℕ
record_failures (Err Unrecorded) = 1
record_failures r = 0

-- An event happened and was recorded; or it was refused, which changed nothing; or it happened, and only a part of its lines was written, or none.
abbrev pub Records : Result Out EventFault → Happening → Traffic → Traffic → Option (List ℕ) → Option (List ℕ) → Type 0
Records (Ok out) e old new before after = Happens old e out.taken out.reply new × Appends before after (record_of (recorded_as e out.taken out.reply))
Records (Err (Refused why)) e old new before after = (new ≡ old) × (after ≡ before)
Records (Err Unrecorded) e old new before after =
    (taken : ℕ) × (reply : Option (List ℕ)) × Happens old e taken reply new × AppendsPart before after (record_of (recorded_as e taken reply))
Records (Err OutOfMemory) e old new before after = (taken : ℕ) × (reply : Option (List ℕ)) × Happens old e taken reply new × (after ≡ before)

-- ---- a record

-- none of the replies reports that memory ran out
abbrev pub NoneRanOut : List Numbered → Type 0
NoneRanOut [] = Unit {0}
NoneRanOut (r ∷ rs) = (r.1 ≢ memory_text) × NoneRanOut rs

-- These bytes are the lines of events that lead from one traffic to another, and no reply to them reports that memory ran out.
pub record IsRecord (old : Traffic) (text : List ℕ) (new : Traffic) : Type 0 where
  pub events : List Happening
  pub replies : List Numbered
  pub recordable : AreRecordable events
  pub occur : OccurAll old events replies new
  pub none_ran_out : NoneRanOut replies
  pub is : text ≡ record_of events

-- The events on the lines of these bytes that are whole were played, and no reply to them reports that memory ran out.
pub record IsPlayed (old : Traffic) (text : List ℕ) (new : Traffic) : Type 0 where
  pub replies : List Numbered
  pub occur : OccurAll old (events_in text) replies new
  pub none_ran_out : NoneRanOut replies

-- the same desk, and lines that are begun on the same connections and may be the same
pub record Alike (t u : Traffic) : Type 0 where
  pub office : t.office ≡ u.office
  pub begun : BegunLines
  pub one : StandFor t begun
  pub other : StandFor u begun

-- ---- laws

-- What is recorded of an event is a record of what it did.
abbrev pub EventsAreRecorded : Type 0
EventsAreRecorded = (t u : Traffic) (w : BegunLines) (e : Happening) (taken : ℕ) (reply : Option (List ℕ)) → StandFor t w → IsShort e → AreBytes e
    → gate_fault t.lines e ≡ None → Happens t e taken reply u → IsRecord t (record_of (recorded_as e taken reply)) u

-- A record goes on with a record.
abbrev pub RecordsGoOn : Type 0
RecordsGoOn = (t u v : Traffic) (a b : List ℕ) → IsRecord t a u → IsRecord u b v → IsRecord t (a ++ b) v

-- A record is played to where it was written.
abbrev pub RecordsArePlayed : Type 0
RecordsArePlayed = (t u v : Traffic) (w : BegunLines) (text : List ℕ) → StandFor t w → IsRecord t text u → IsPlayed t text v → Alike u v

-- A record that is cut anywhere is played to where the gateway was when the last line was written that is whole; and its whole lines are a
-- record of what was played.
pub record IsPlayedCut (old : Traffic) (text : List ℕ) (n : ℕ) (written played : Traffic) : Type 0 where
  pub kept : List ℕ
  pub rest : List ℕ
  pub torn : List ℕ
  pub there : Traffic
  pub whole : text ≡ kept ++ rest
  pub front : take n text ≡ kept ++ torn
  pub no_line : has_end torn ≡ false
  pub before : IsRecord old kept there
  pub after : IsRecord there rest written
  pub alike : Alike there played
  pub goes_on : IsRecord old kept played

abbrev pub CutsArePlayed : Type 0
CutsArePlayed = (t u v : Traffic) (w : BegunLines) (text : List ℕ) (n : ℕ) → StandFor t w → IsRecord t text u → IsPlayed t (take n text) v
    → IsPlayedCut t text n u v
