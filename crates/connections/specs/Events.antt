-- One event of the gateway.
use Rattle.std.specs.Prelude.{◌≡◌, ℕ, List, [], nat_lt, Option, Some, None, Result, Ok, Err, slice_index_or, slice_set, if◌then◌else◌}
use Rattle.connections.specs.declared.gateway.Event.{Event, TheVariants.Open, TheVariants.Bytes, TheVariants.Close}
use Rattle.connections.specs.declared.gateway.GateFault.{GateFault, TheVariants.BadNumber, TheVariants.AlreadyOpen, TheVariants.NotOpen}
use Rattle.connections.specs.declared.gateway.TakeFault.{TakeFault, TheVariants.Refused, TheVariants.Unkept}
use Rattle.connections.specs.Traffic.{Partial, Received, Traffic, Takes}

-- the number of connections, whose numbers count from 0
abbrev pub connections : ℕ
connections = 16

-- what happens on a connection
pub data Happening : Type 0 where
  Opening : ℕ → Happening
  Bringing : ℕ → List ℕ → Happening
  Closing : ℕ → Happening

abbrev pub happening : Event → Happening
happening (Open c) = Opening c
happening (Bytes c bytes) = Bringing c bytes.now
happening (Close c) = Closing c

-- ---- what is refused

-- the entry of a connection's number, if the connection is open
abbrev pub at_number : {A : Type 0} → List (Option A) → ℕ → Option A
at_number lines c = slice_index_or lines c None

abbrev pub unless_open : {A : Type 0} → Option A → Option GateFault
unless_open None = Some NotOpen
unless_open (Some x) = None

abbrev pub unless_closed : {A : Type 0} → Option A → Option GateFault
unless_closed None = None
unless_closed (Some x) = Some AlreadyOpen

abbrev pub unless_bad_number : ℕ → Option GateFault → Option GateFault
unless_bad_number c fault = if nat_lt c connections then fault else Some BadNumber

-- why an event is refused, if it is
abbrev pub gate_fault : {A : Type 0} → List (Option A) → Happening → Option GateFault
gate_fault lines (Opening c) = unless_bad_number c (unless_closed (at_number lines c))
gate_fault lines (Bringing c bytes) = unless_bad_number c (unless_open (at_number lines c))
gate_fault lines (Closing c) = unless_bad_number c (unless_open (at_number lines c))

-- whether an event brings bytes
abbrev pub Brings : Happening → Type 0
Brings (Opening c) = ⊥
Brings (Bringing c bytes) = Unit {0}
Brings (Closing c) = ⊥

-- Why an event returns nothing, by the fault for which a gateway refuses it, if there is one: bytes may also be what can't be kept.
abbrev pub TakeFaultIs : {A : Type 0} → Result A TakeFault → Happening → Option GateFault → Type 0
TakeFaultIs (Ok x) e fault = fault ≡ None
TakeFaultIs (Err (Refused why)) e fault = fault ≡ Some why
TakeFaultIs (Err Unkept) e fault = Brings e

-- ---- what is accepted

-- the partial line of a connection, if the connection is open
abbrev pub line_at : Traffic → ℕ → Option Partial
line_at t c = at_number t.lines c

abbrev pub with_line : Traffic → ℕ → Option Partial → Traffic
with_line t c line = record { office = t.office; lines = slice_set t.lines c line }

-- Bytes were taken on a connection: its line and the desk moved on, and nothing else.
pub record Took (old : Traffic) (c : ℕ) (bytes : List ℕ) (taken : ℕ) (reply : Option (List ℕ)) (new : Traffic) : Type 0 where
  pub begun : Partial
  pub next : Partial
  pub was : line_at old c ≡ Some begun
  pub takes : Takes bytes old.office begun taken reply new.office next
  pub lines : new.lines ≡ slice_set old.lines c (Some next)

-- what an accepted event does: how many bytes it took, its reply, and the traffic after it
abbrev pub Happens : Traffic → Happening → ℕ → Option (List ℕ) → Traffic → Type 0
Happens old (Opening c) taken reply new = (taken ≡ 0) × (reply ≡ None) × (new ≡ with_line old c (Some (Received [])))
Happens old (Bringing c bytes) taken reply new = Took old c bytes taken reply new
Happens old (Closing c) taken reply new = (taken ≡ 0) × (reply ≡ None) × (new ≡ with_line old c None)
