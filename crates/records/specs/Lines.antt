-- The lines of a record: an event on each, as a trace has it.
use Rattle.std.specs.Prelude.{◌≡◌, ℕ, ◌<◌, ◌≤◌, List, [], ◌∷◌, ◌++◌, false, length, take, codes, Some}
use Rattle.std.specs.Fmt.{decimal}
use Rattle.base64.specs.{Engines.standard, GeneralPurpose.encode_of, GeneralPurpose.IsBytes}
use Rattle.connections.specs.{Events.Happening, Events.Opening, Events.Bringing, Events.Closing, Lines.complete, Lines.has_end}
use Rattle.gateway.specs.{Trace.event_on, Trace.after_ends, Traced.events_on}

-- the most bytes of an event
abbrev pub most_brought : ℕ
most_brought = 4096

-- the line of an event, without its line feed
abbrev pub words_of : Happening → List ℕ
words_of (Opening c) = codes "open " ++ decimal c
words_of (Bringing c bytes) = codes "bytes " ++ (decimal c ++ 32 ∷ encode_of standard bytes)
words_of (Closing c) = codes "close " ++ decimal c

-- the lines of events, in their order
abbrev pub record_of : List Happening → List ℕ
record_of [] = []
record_of (e ∷ es) = words_of e ++ 10 ∷ record_of es

-- An event that a line holds: one on a connection of a number below 256, and of some bytes, not too many, which have no line feed but at their end.
abbrev pub IsRecordable : Happening → Type 0
IsRecordable (Opening c) = c < 256
IsRecordable (Bringing c bytes) = (c < 256) × IsBytes bytes × (0 < length bytes) × (length bytes ≤ most_brought) × (after_ends bytes ≡ [])
IsRecordable (Closing c) = c < 256

abbrev pub AreRecordable : List Happening → Type 0
AreRecordable [] = Unit {0}
AreRecordable (e ∷ es) = IsRecordable e × AreRecordable es

-- the events on the lines that are whole
abbrev pub events_in : List ℕ → List Happening
events_in text = events_on (complete [] text)

-- ---- laws

-- The line of an event is read by a trace as that event.
abbrev pub LinesAreEvents : Type 0
LinesAreEvents = (e : Happening) → IsRecordable e → event_on (words_of e) ≡ Some e

-- Of the first bytes of a record the events are read whose lines are whole there; what is left over is no line.
pub record Cut (events : List Happening) (n : ℕ) : Type 0 where
  pub front : List Happening
  pub rest : List Happening
  pub are : events ≡ front ++ rest
  pub read : events_in (take n (record_of events)) ≡ front
  pub torn : List ℕ
  pub text : take n (record_of events) ≡ record_of front ++ torn
  pub no_line : has_end torn ≡ false

abbrev pub RecordsAreCut : Type 0
RecordsAreCut = (events : List Happening) (n : ℕ) → AreRecordable events → Cut events n
