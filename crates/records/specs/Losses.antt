-- A gateway of which something couldn't be recorded: what it was before, and which connections opened and closed since.
use Rattle.std.specs.Prelude.{◌≡◌, ◌⊎◌, ℕ, zero, suc, List, [], ◌∷◌, ◌++◌, Bool, true, false, Option, Some, None, IsSome, Result, Ok, Err}
use Rattle.std.specs.Prelude.{if◌then◌else◌}
use Rattle.std.specs.{Io.KnownBytes.Appends, Option.is_some}
use Rattle.devices.specs.Devices.{AppendsPart}
use Rattle.connections.specs.{Traffic.Traffic, Traffic.Partial, Traffic.Received, Clients.BegunLines, Clients.StandFor}
use Rattle.connections.specs.Events.{Happening, Closing, Happens, line_at, with_line}
use Rattle.connections.specs.declared.gateway.TakeFault.{TakeFault, TheVariants.Refused, TheVariants.Unkept}
use Rattle.records.specs.{Lines.record_of, Records.IsRecord, Records.IsShort, Records.recorded_as}
use Rattle.records.specs.declared.loss.Loss.{Loss, fold-Loss, TheOpen.Loss-F}

-- the line that is begun on a connection that opened or closed
abbrev pub line_when : Bool → Option Partial
line_when true = Some (Received [])
line_when false = None

abbrev turned_on : Loss-F Traffic → Traffic
turned_on (Loss-F.At before) = before.value
turned_on (Loss-F.Turned before opens c) = with_line before.value c.value (line_when opens.value)

-- the desk as it was before, and the connections that are open now
abbrev pub left_of : Loss → Traffic
left_of = fold-Loss Traffic turned_on

-- what others see of a gateway, by what was lost, if something was
abbrev pub seen_as : Option Loss → Traffic → Traffic
seen_as None traffic = traffic
seen_as (Some loss) traffic = left_of loss

-- ---- what the device has taken

-- lines of which something was lost: a front of them was written and not all, or nothing was
abbrev pub IsCut : List Happening → Option (List ℕ) → Option (List ℕ) → Type 0
IsCut events before after = AppendsPart before after (record_of events) ⊎ (after ≡ before)

-- the lines of events: all of them, where nothing is lost
abbrev pub IsWritten : Option Loss → List Happening → Option (List ℕ) → Option (List ℕ) → Type 0
IsWritten None events before after = Appends before after (record_of events)
IsWritten (Some loss) events before after = IsCut events before after

-- These events are recorded, where nothing is lost: their lines were written, and are a record of what happened.
abbrev pub IsKept : Option Loss → List Happening → Traffic → Traffic → Option (List ℕ) → Option (List ℕ) → Type 0
IsKept None events old new before after = Appends before after (record_of events)
    × ((begun : BegunLines) → StandFor old begun → IsRecord old (record_of events) new)
IsKept (Some loss) events old new before after = IsCut events before after

-- An event happened, and is lost: its lines weren't written, or not all of them.
abbrev pub IsLost : Happening → Traffic → Option (List ℕ) → Option (List ℕ) → Type 0
IsLost e old before after =
    (taken : ℕ) × (reply : Option (List ℕ)) × (new : Traffic) × Happens old e taken reply new × IsCut (recorded_as e taken reply) before after

-- What is left of an event that returned nothing. Where it is refused, nothing was written, and no more is lost than before. Where it can't be
-- kept, the same, and it has no bytes, or too many, or something was lost before; or it is the first that is lost.
abbrev pub IsLeft : {A : Type 0} → Result A TakeFault → Happening → Traffic → Option Loss → Option Loss → Option (List ℕ) → Option (List ℕ) → Type 0
IsLeft (Ok out) e old lost later before after = Unit {0}
IsLeft (Err (Refused why)) e old lost later before after = (later ≡ lost) × (after ≡ before)
IsLeft (Err Unkept) e old lost later before after = ((IsSome lost ⊎ ¬ IsShort e) × (later ≡ lost) × (after ≡ before))
    ⊎ ((lost ≡ None) × IsSome later × IsLost e old before after)

-- ---- the end

-- the connections of a number below one that are open are closed, one after another
abbrev pub closings : ℕ → Traffic → List Happening
closings zero t = []
closings (suc c) t = closings c t ++ (if is_some (line_at t c) then Closing c ∷ [] else [])
