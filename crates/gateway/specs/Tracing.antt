-- What the code of a trace has done so far. Nothing here has to be believed.
use Rattle.std.specs.Prelude.{◌≡◌, ℕ, ◌+◌, ◌<◌, List, [], ◌∷◌, ◌++◌, length, map, Option, Some, None, Vec, Result, Ok, Err}
use Rattle.std.specs.{declared.alloc.Global.Global, Io.KnownBytes.Appends}
use Rattle.gateway.specs.declared.traces.fault.TraceFault.{TraceFault}
use Rattle.gateway.specs.declared.traces.fault.TraceFault.TheVariants as fault
use Rattle.gateway.specs.declared.traces.fault.LineFault.{LineFault, TheVariants.Bad, TheVariants.Write, TheVariants.OutOfMemory}
use Rattle.gateway.specs.declared.traces.event.TraceEvent.{TraceEvent, TheVariants.Open, TheVariants.Bytes, TheVariants.Close}
use Rattle.devices.specs.declared.reading.Stop.{Stop}
use Rattle.devices.specs.declared.reading.Stop.TheVariants as stop
use Rattle.gateway.specs.{declared.traces.feeding.TracePlace.TracePlace, TraceLines.MayBe, TraceLines.line_write_failures}
use Rattle.gateway.specs.Trace.{some_bytes, after_ends, printed, printed_all, Prints, PrintStops, PrintsAll, StopsAtBad, StopsInPrint, StopsForMemory}
use Rattle.devices.specs.Devices.{AppendsPart, Writes}
use Rattle.connections.specs.{Delivery.IsOpen, Lines.complete, Lines.unfinished, Traffic.Traffic}
use Rattle.connections.specs.{Events.Happening, Events.Opening, Events.Bringing, Events.Closing, Clients.Numbered, Clients.OccurAll}

-- ---- the event on a line

abbrev pub happening_of : TraceEvent → Happening
happening_of (Open c) = Opening c
happening_of (Bytes c bytes) = Bringing c bytes.items
happening_of (Close c) = Closing c

-- the bytes are the ones defined, or memory ran out
abbrev pub Decodes : {E : Type 0} → List ℕ → Result (Option (Vec ℕ Global)) E → Type 0
Decodes text (Ok (Some v)) = some_bytes text ≡ Some v.items
Decodes text (Ok None) = some_bytes text ≡ None
Decodes text (Err e) = Unit {0}

-- the event is the one defined, or memory ran out
abbrev pub Reads : {E : Type 0} → Option Happening → Result (Option TraceEvent) E → Type 0
Reads event (Ok (Some e)) = event ≡ Some (happening_of e)
Reads event (Ok None) = event ≡ None
Reads event (Err e) = Unit {0}

-- ---- the printing of an event

-- all of the text was written, or a prefix of it but not all
abbrev pub WritesAll : {A E : Type 0} → Result A E → List ℕ → Option (List ℕ) → Option (List ℕ) → Type 0
WritesAll (Ok x) text before after = Appends before after text
WritesAll (Err f) text before after = AppendsPart before after text

-- the reply was printed, if there is one, or printing it stopped short
abbrev pub PrintsReply : {A E : Type 0} → Result A E → List Numbered → Option (List ℕ) → Option (List ℕ) → Type 0
PrintsReply (Ok x) replies before after = Appends before after (printed_all replies)
PrintsReply (Err f) replies before after = (last : Numbered) × (replies ≡ last ∷ []) × AppendsPart before after (printed last)

-- an event was played, by the answer
abbrev pub Plays : {A E : Type 0} → Result A E → Happening → Traffic → Traffic → Option (List ℕ) → Option (List ℕ) → Type 0
Plays (Ok x) e old new before after = (out : List ℕ) × Appends before after out × Prints old e out new
Plays (Err f) e old new before after = (out : List ℕ) × Appends before after out × PrintStops old e out new

-- the events of bytes, which may be none
abbrev pub bringings : ℕ → List ℕ → List Happening
bringings c [] = []
bringings c (b ∷ bs) = Bringing c (b ∷ bs) ∷ map (Bringing c) (after_ends (b ∷ bs))

-- the events of bytes on an open connection, by the answer
abbrev pub PlaysRest : {A E : Type 0} → Result A E → ℕ → List ℕ → Traffic → Traffic → Option (List ℕ) → Option (List ℕ) → Type 0
PlaysRest (Ok x) c bytes old new before after =
    (replies : List Numbered) × OccurAll old (bringings c bytes) replies new × Appends before after (printed_all replies)
PlaysRest (Err f) c bytes old new before after =
    (done left : List Happening) × (replies : List Numbered) × (last : Numbered) × (part unsent : List ℕ) × (bringings c bytes ≡ done ++ left)
    × OccurAll old done (replies ++ last ∷ []) new × (printed last ≡ part ++ unsent) × (0 < length unsent) × Appends before after (printed_all replies ++ part)

-- the bytes before `rest` were played on an open connection
pub record Played (c : ℕ) (bytes rest : List ℕ) (old now : Traffic) (before after : Option (List ℕ)) : Type 0 where
  pub done : List Happening
  pub replies : List Numbered
  pub cut : bringings c bytes ≡ done ++ bringings c rest
  pub occurs : OccurAll old done replies now
  pub appends : Appends before after (printed_all replies)
  pub is_open : IsOpen now c

-- the fault of a line with this number
abbrev pub numbered_fault : LineFault → ℕ → TraceFault
numbered_fault Bad n = fault.BadLine n
numbered_fault Write n = fault.Write
numbered_fault OutOfMemory n = fault.OutOfMemory

-- the fault of a trace that stopped so, in the line of this number
abbrev pub fault_by : Stop LineFault → ℕ → TraceFault
fault_by stop.Read n = fault.Read
fault_by stop.TooManyReads n = fault.TooManyReads
fault_by (stop.Taker f) n = numbered_fault f n

-- ---- bytes of a trace

-- Where this line was begun: the complete lines were played, and the next line is begun.
pub record FeedsOn (line bytes : List ℕ) (old new : Traffic) (before after : Option (List ℕ)) (was is : TracePlace) : Type 0 where
  pub out : List ℕ
  pub appends : Appends before after out
  pub prints : PrintsAll old (complete line bytes) out new
  pub next : MayBe is.begun is.comment (unfinished line bytes)
  pub number : is.number ≡ was.number + length (complete line bytes)

abbrev pub Feeds : List ℕ → Traffic → Traffic → Option (List ℕ) → Option (List ℕ) → TracePlace → TracePlace → Type 0
Feeds bytes old new before after was is = (line : List ℕ) → MayBe was.begun was.comment line → FeedsOn line bytes old new before after was is

abbrev pub Anything : List ℕ → Type 0
Anything later = Unit {0}

-- why bytes weren't fed to their end, in the line of this number
abbrev pub FeedStops : LineFault → ℕ → List ℕ → Traffic → Traffic → Option (List ℕ) → Option (List ℕ) → TracePlace → Type 0
FeedStops Bad n bytes old new before after was =
    (line : List ℕ) → MayBe was.begun was.comment line → StopsAtBad n was.number line bytes Anything old new before after
FeedStops Write n bytes old new before after was = (line : List ℕ) → MayBe was.begun was.comment line → StopsInPrint line bytes Anything old new before after
FeedStops OutOfMemory n bytes old new before after was = (line : List ℕ) → MayBe was.begun was.comment line → StopsForMemory line bytes old new before after

-- the same, with the number of failed writes
pub record Fed (bytes : List ℕ) (old new : Traffic) (before after : Writes) (was is : TracePlace) : Type 0 where
  pub feeds : Feeds bytes old new before.written after.written was is
  pub fine : after.failures ≡ before.failures

pub record FedUntil (f : LineFault) (bytes : List ℕ) (old new : Traffic) (before after : Writes) (was is : TracePlace) : Type 0 where
  pub stops : FeedStops f is.number bytes old new before.written after.written was
  pub failed : after.failures ≡ before.failures + line_write_failures {A = Unit {0}} (Err f)
