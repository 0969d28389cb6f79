-- What the code of a trace that may have a head has done so far. Nothing here has to be believed.
use Rattle.std.specs.Prelude.{◌≡◌, ℕ, ◌+◌, ◌<◌, Bool, true, false, List, [], ◌++◌, length}
use Rattle.desk.specs.Desk.{Office}
use Rattle.devices.specs.Devices.{Writes}
use Rattle.connections.specs.Traffic.{Received, Traffic}
use Rattle.gateway.specs.declared.traces.fault.LineFault.{LineFault}
use Rattle.gateway.specs.declared.traces.fault.LineFault.TheVariants as line
use Rattle.gateway.specs.declared.traces.{feeding.TracePlace.TracePlace, head.HeadFault.HeadFault}
use Rattle.gateway.specs.declared.traces.{head.HeadFault.TheVariants.Bad, head.HeadFault.TheVariants.OutOfMemory, headed.HeadedPlace.HeadedPlace}
use Rattle.gateway.specs.{Head.HeadOn, Head.HeadIsBad, Head.Whatever, Head.may_head, Headed.with_desk, Tracing.Fed, Tracing.FedUntil}

abbrev pub head_line_fault : HeadFault → LineFault
head_line_fault Bad = line.Bad
head_line_fault OutOfMemory = line.OutOfMemory

-- no line is begun
pub record IsFresh (p : TracePlace) : Type 0 where
  pub begun : p.begun ≡ Received []
  pub plain : p.comment ≡ false

-- in the head
pub record FedHead (bytes : List ℕ) (old new : Traffic) (before after : Writes) (was is : HeadedPlace) : Type 0 where
  pub on : HeadOn bytes old.office new.office was.head is.head
  pub lines : new.lines ≡ old.lines
  pub silent : after ≡ before
  pub place : IsFresh was.place → IsFresh is.place
  pub number : was.place.number ≡ was.head.lines + 1 → is.place.number ≡ is.head.lines + 1

-- the head was left: the line behind it begins here
pub record LeftHead (front back : List ℕ) (old : Traffic) (was is : HeadedPlace) (mid : Office) (place : TracePlace) : Type 0 where
  pub on : HeadOn front old.office mid was.head is.head
  pub ends : is.head.line ≡ []
  pub over : may_head back ≡ false
  pub some : 0 < length back
  pub begun : IsFresh was.place → IsFresh place
  pub number : place.number ≡ is.head.lines + 1

-- bytes of the head, and behind it others of which this holds
pub record IsBoth (Behind : List ℕ → Traffic → TracePlace → Type 0) (bytes : List ℕ) (old : Traffic) (was is : HeadedPlace) : Type 0 where
  pub front : List ℕ
  pub back : List ℕ
  pub cut : bytes ≡ front ++ back
  pub mid : Office
  pub place : TracePlace
  pub left : LeftHead front back old was is mid place
  pub behind : Behind back (with_desk old mid) place

abbrev pub FedBoth : List ℕ → Traffic → Traffic → Writes → Writes → HeadedPlace → HeadedPlace → Type 0
FedBoth bytes old new before after was is = IsBoth (λ back mid place. Fed back mid new before after place is.place) bytes old was is

-- by whether the head was over, and is
abbrev pub HeadedBy : Bool → Bool → List ℕ → Traffic → Traffic → Writes → Writes → HeadedPlace → HeadedPlace → Type 0
HeadedBy true true bytes old new before after was is = Fed bytes old new before after was.place is.place × (is.head ≡ was.head)
HeadedBy true false bytes old new before after was is = ⊥
HeadedBy false false bytes old new before after was is = FedHead bytes old new before after was is
HeadedBy false true bytes old new before after was is = FedBoth bytes old new before after was is

abbrev pub HeadedFed : List ℕ → Traffic → Traffic → Writes → Writes → HeadedPlace → HeadedPlace → Type 0
HeadedFed bytes old new before after was is = HeadedBy was.over is.over bytes old new before after was is

-- why bytes of a head weren't taken
abbrev pub HeadStops : LineFault → List ℕ → Traffic → Traffic → Writes → Writes → HeadedPlace → HeadedPlace → Type 0
HeadStops line.Bad bytes old new before after was is = HeadIsBad bytes Whatever old.office was.head × (new ≡ old) × (after ≡ before)
    × (is.place.number ≡ was.place.number)
HeadStops line.Write bytes old new before after was is = ⊥
HeadStops line.OutOfMemory bytes old new before after was is = (new ≡ old) × (after ≡ before)

abbrev pub StopsBoth : LineFault → List ℕ → Traffic → Traffic → Writes → Writes → HeadedPlace → HeadedPlace → Type 0
StopsBoth f bytes old new before after was is = IsBoth (λ back mid place. FedUntil f back mid new before after place is.place) bytes old was is

abbrev pub HeadedStopsBy : Bool → Bool → LineFault → List ℕ → Traffic → Traffic → Writes → Writes → HeadedPlace → HeadedPlace → Type 0
HeadedStopsBy true true f bytes old new before after was is = FedUntil f bytes old new before after was.place is.place × (is.head ≡ was.head)
HeadedStopsBy true false f bytes old new before after was is = ⊥
HeadedStopsBy false false f bytes old new before after was is = HeadStops f bytes old new before after was is
HeadedStopsBy false true f bytes old new before after was is = StopsBoth f bytes old new before after was is

abbrev pub HeadedFedUntil : LineFault → List ℕ → Traffic → Traffic → Writes → Writes → HeadedPlace → HeadedPlace → Type 0
HeadedFedUntil f bytes old new before after was is = HeadedStopsBy was.over is.over f bytes old new before after was is
