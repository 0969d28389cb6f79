-- The program's exit status, and the names that its texts have for the faults of a label file.
use Rattle.std.specs.Prelude.{ℕ, List, codes}
use Rattle.enc_names.specs.declared.labels.LabelFault.{LabelFault}
use Rattle.enc_names.specs.declared.labels.LabelFault.TheVariants as fault
use Rattle.gate.specs.declared.failure.Failure.{Failure}
use Rattle.gate.specs.declared.failure.Failure.TheVariants.{Words, NotText, Index, Labels, CannotRead, TraceLine, RecordLine}
use Rattle.gate.specs.declared.failure.Failure.TheVariants.{CannotRecord, RecordInUse, HasRecord, NoRecord, OldRecord, OtherVersion, OtherFiles}
use Rattle.gate.specs.declared.failure.Failure.TheVariants.{NoToken, CannotCreate}
use Rattle.gate.specs.declared.failure.Failure.TheVariants.{Read, Write, Record, TooManyReads}
use Rattle.gate.specs.declared.failure.Failure.TheVariants.{CannotListen, CannotListenAt, Accept, Poll, OutOfMemory}
use Rattle.gate.specs.declared.failure.Failure.TheVariants.{NoLabel, NoIndex, NoEncoder, Malformed, Unencodable, Damaged, Closed}

-- 2 for a mistake in the arguments, the files or a trace; 1 for a damaged stream, a device that failed or lack of memory
abbrev pub status_of : Failure → ℕ
status_of (Words error) = 2
status_of NotText = 2
status_of (Index fault) = 2
status_of (Labels fault) = 2
status_of (CannotRead name) = 2
status_of (TraceLine number) = 2
status_of (RecordLine number) = 2
status_of (CannotRecord name) = 2
status_of (RecordInUse name) = 2
status_of (HasRecord name) = 2
status_of (NoRecord name) = 2
status_of (OldRecord name) = 2
status_of (OtherVersion name) = 2
status_of (OtherFiles name files) = 2
status_of (NoToken name) = 2
status_of (CannotCreate name) = 2
status_of Read = 1
status_of Write = 1
status_of Record = 1
status_of TooManyReads = 1
status_of (CannotListen port) = 1
status_of (CannotListenAt path) = 1
status_of Accept = 1
status_of Poll = 1
status_of OutOfMemory = 1
status_of (NoLabel label) = 2
status_of (NoIndex encoding) = 2
status_of (NoEncoder encoding) = 2
status_of (Malformed spot encoding) = 1
status_of (Unencodable spot code_point encoding) = 1
status_of Damaged = 1
status_of Closed = 1

abbrev pub label_fault_name : LabelFault → List ℕ
label_fault_name fault.NotJson = codes "NotJson"
label_fault_name fault.BadShape = codes "BadShape"
label_fault_name fault.OutOfMemory = codes "OutOfMemory"
