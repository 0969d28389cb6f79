-- What the program does with a trace: it is played by a gateway that begins with no document but those of the trace's head.
use Rattle.std.specs.Prelude.{ℕ, List, Option, Result, Ok, Err}
use Rattle.gateway.specs.{Headed.TracesHeaded, Devices.Reads, Traffic.Traffic, declared.traces.fault.TraceFault.TraceFault}
use Rattle.gateway.specs.declared.traces.fault.TraceFault.TheVariants as fault
use Rattle.gate.specs.declared.failure.Failure.{Failure}
use Rattle.gate.specs.declared.failure.Failure.TheVariants.{TraceLine, Read, Write, TooManyReads, OutOfMemory}

-- The answer of the trace, by the program's. A failure that no trace has is that of line 0, since lines are counted from 1.
abbrev pub trace_answer : {A : Type 0} → Result A Failure → Result A TraceFault
trace_answer (Ok x) = Ok x
trace_answer (Err (TraceLine number)) = Err (fault.BadLine number)
trace_answer (Err Read) = Err fault.Read
trace_answer (Err Write) = Err fault.Write
trace_answer (Err TooManyReads) = Err fault.TooManyReads
trace_answer (Err OutOfMemory) = Err fault.OutOfMemory
trace_answer (Err failure) = Err (fault.BadLine 0)

-- the trace, and the gateway after it
pub record Replayed {A : Type 0} (answer : Result A TraceFault) (old : Traffic) (first last : Reads) (before after : Option (List ℕ)) : Type 0 where
  pub new : Traffic
  pub traces : TracesHeaded answer old new first last before after
