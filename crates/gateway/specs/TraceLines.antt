-- The line of a trace that is begun, and the play of one that is complete. Nothing here has to be believed.
use Rattle.std.specs.Prelude.{◌≡◌, ℕ, Bool, true, false, List, ◌++◌, Option, Some, Result, Ok, Err}
use Rattle.std.specs.Io.KnownBytes.{Appends}
use Rattle.gateway.specs.declared.traces.fault.LineFault.{LineFault, TheVariants.Bad, TheVariants.Write, TheVariants.OutOfMemory}
use Rattle.gateway.specs.Trace.{trace_limit, is_comment, is_skipped, event_on, IsBad, PrintStops, PrintsLine}
use Rattle.connections.specs.{Traffic.Partial, Traffic.StandsWithin, Traffic.Traffic, Events.Happening}

-- A line may be this one, by what is known of it, and whether it is a comment.
abbrev pub MayBe : Partial → Bool → List ℕ → Type 0
MayBe known comment line = StandsWithin trace_limit known line × (comment ≡ is_comment line)

-- why a trace can't go on with a line: it is bad, whatever comes after it; or it isn't skipped, and memory ran out
abbrev pub Stuck : LineFault → List ℕ → Type 0
Stuck Bad line = (more : List ℕ) → IsBad (line ++ more)
Stuck Write line = ⊥
Stuck OutOfMemory line = is_skipped line ≡ false

-- the bytes of a line were dropped since it is skipped, or a trace can't go on with it
abbrev pub Drops : {A : Type 0} → Result A LineFault → List ℕ → Type 0
Drops (Ok x) line = is_skipped line ≡ true
Drops (Err fault) line = Stuck fault line

-- the line was played
abbrev pub PlaysLine : {A : Type 0} → Result A LineFault → List ℕ → Traffic → Traffic → Option (List ℕ) → Option (List ℕ) → Type 0
PlaysLine (Ok x) line old new before after = (out : List ℕ) × Appends before after out × PrintsLine (is_skipped line) line old out new
PlaysLine (Err Bad) line old new before after = IsBad line × (new ≡ old) × (after ≡ before)
PlaysLine (Err Write) line old new before after =
    (is_skipped line ≡ false) × (e : Happening) × (event_on line ≡ Some e) × (out : List ℕ) × Appends before after out × PrintStops old e out new
PlaysLine (Err OutOfMemory) line old new before after = (is_skipped line ≡ false) × (new ≡ old) × (after ≡ before)

-- how many of the writes failed
abbrev pub line_write_failures : {A : Type 0} → Result A LineFault → ℕ
line_write_failures (Err Write) = 1
line_write_failures r = 0
