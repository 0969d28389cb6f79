-- What the program does between its input and its output: a run on one connection, by a gateway
-- that begins with no document.
use Rattle.std.specs.Prelude.{ℕ, List, None, Option, Result, Ok, Err, replicate}
use Rattle.std.specs.FinMap.{empty}
use Rattle.enc_names.specs.Labels.{LabelTable}
use Rattle.index_loader.specs.Files.{Files}
use Rattle.gateway.specs.{Events.connections, Serving.RunGives, Devices.Reads, Traffic.Traffic, RunFault.RunFault}
use Rattle.gateway.specs.RunFault.TheVariants as fault
use Rattle.gate.specs.declared.failure.Failure.{Failure, TheVariants.Read, TheVariants.Write, TheVariants.Record, TheVariants.TooManyReads}

-- a gateway with these index files and labels, no document, and no connection open
abbrev pub beginning : Files → LabelTable → Traffic
beginning indexes labels = record {
  office = record { indexes = indexes; labels = labels; documents = empty; turn = 0 };
  lines = replicate connections None;
}

-- The answer of the run, by the program's. A failure that no run has is that of a connection that
-- isn't free, which connection 0 of such a gateway is.
abbrev pub run_answer : {A : Type 0} → Result A Failure → Result A RunFault
run_answer (Ok x) = Ok x
run_answer (Err Read) = Err fault.Read
run_answer (Err Write) = Err fault.Write
run_answer (Err Record) = Err fault.Unkept
run_answer (Err TooManyReads) = Err fault.TooManyReads
run_answer (Err failure) = Err fault.NotFree

-- the run on connection 0, and the gateway behind it
pub record Served {A : Type 0} (answer : Result A RunFault) (old : Traffic) (first last : Reads) (before after : Option (List ℕ)) : Type 0 where
  pub new : Traffic
  pub runs : RunGives answer 0 old new first last before after
