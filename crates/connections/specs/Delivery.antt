-- A connection that is open, and what a run has done so far on it; nothing of the latter has to be believed.
use Rattle.std.specs.Prelude.{◌≡◌, ℕ, ◌+◌, List, Option, Some, None, Result, Ok, Err}
use Rattle.std.specs.Io.KnownBytes.{Appends}
use Rattle.connections.specs.declared.serve.RunFault.{RunFault}
use Rattle.connections.specs.declared.serve.RunFault.TheVariants as fault
use Rattle.connections.specs.declared.serve.Halt.{Halt, TheVariants.Unkept, TheVariants.Unwritten}
use Rattle.connections.specs.{Lines.complete, Lines.unfinished, Traffic.Partial, Traffic.Stands, Traffic.Traffic}
use Rattle.connections.specs.{Events.line_at, Events.gate_fault, Events.Closing, Serving.Serves, Serving.Breaks, Serving.SameOthers}
use Rattle.devices.specs.declared.reading.Stop.{Stop, TheVariants.Read, TheVariants.TooManyReads, TheVariants.Taker}
use Rattle.devices.specs.Devices.{AppendsPart, Writes}

-- connection c exists and is open
abbrev pub IsOpen : Traffic → ℕ → Type 0
IsOpen t c = gate_fault t.lines (Closing c) ≡ None

-- the partial line of connection c may be this one
pub record Begun (t : Traffic) (c : ℕ) (line : List ℕ) : Type 0 where
  pub known : Partial
  pub is : line_at t c ≡ Some known
  pub stands : Stands known line

-- The replies to the lines that end in the bytes were written, and the next line has the rest.
pub record Delivered (c : ℕ) (bytes : List ℕ) (old new : Traffic) (before after : Writes) : Type 0 where
  pub out : List ℕ
  pub appends : Appends before.written after.written out
  pub fine : after.failures ≡ before.failures
  pub serves : (line : List ℕ) → Begun old c line → Serves old.office (complete line bytes) out new.office
  pub is_open : IsOpen new c
  pub begun : (line : List ℕ) → Begun old c line → Begun new c (unfinished line bytes)
  pub others : SameOthers old new c

-- The writing of the replies to the lines that end in the bytes broke off.
pub record DeliveredUntil (c : ℕ) (bytes : List ℕ) (old new : Traffic) (before after : Writes) : Type 0 where
  pub out : List ℕ
  pub appends : Appends before.written after.written out
  pub failed : after.failures ≡ before.failures + 1
  pub breaks : (line : List ℕ) → Begun old c line → Breaks old.office (complete line bytes) out new.office
  pub is_open : IsOpen new c
  pub others : SameOthers old new c

-- Why a connection takes none of the bytes or not all: they can't be kept, by a gateway that doesn't keep all, and nothing happened; or the
-- writing of replies broke off.
abbrev pub Halts : Type 0 → Halt → ℕ → List ℕ → Traffic → Traffic → Writes → Writes → Type 0
Halts keeps_all Unkept c bytes old new before after = (new ≡ old) × (after ≡ before) × ¬ keeps_all
Halts keeps_all Unwritten c bytes old new before after = DeliveredUntil c bytes old new before after

-- the write of a reply, if there is one, by its answer
abbrev pub WritesReply : {A E : Type 0} → Result A E → Option (List ℕ) → Option (List ℕ) → Option (List ℕ) → Type 0
WritesReply (Ok x) None before after = after ≡ before
WritesReply (Ok x) (Some text) before after = Appends before after text
WritesReply (Err e) None before after = ⊥
WritesReply (Err e) (Some text) before after = AppendsPart before after text

-- the fault of a run that stopped so
abbrev pub fault_by : Stop Halt → RunFault
fault_by Read = fault.Read
fault_by TooManyReads = fault.TooManyReads
fault_by (Taker Unkept) = fault.Unkept
fault_by (Taker Unwritten) = fault.Write
