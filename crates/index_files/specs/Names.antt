-- The names that texts have for the causes of a faulty index file, or of faulty exceptions.
use Rattle.std.specs.Prelude.{ℕ, List, codes}
use Rattle.index_loader.specs.declared.fault.{ExceptionCause.ExceptionCause, IndexCause.IndexCause}
use Rattle.index_loader.specs.declared.fault.IndexCause.TheVariants.{BadPointer, BadCodePoint, PointerTooLarge, BadRanges, DuplicatePointer, OutOfMemory}
use Rattle.index_loader.specs.declared.fault.ExceptionCause.TheVariants as exception
use Rattle.index_files.specs.declared.fault.FileCause.{FileCause}
use Rattle.index_files.specs.declared.fault.FileCause.TheVariants as of

abbrev pub index_cause_name : IndexCause → List ℕ
index_cause_name BadPointer = codes "BadPointer"
index_cause_name BadCodePoint = codes "BadCodePoint"
index_cause_name PointerTooLarge = codes "PointerTooLarge"
index_cause_name BadRanges = codes "BadRanges"
index_cause_name DuplicatePointer = codes "DuplicatePointer"
index_cause_name OutOfMemory = codes "OutOfMemory"

abbrev pub exception_cause_name : ExceptionCause → List ℕ
exception_cause_name exception.BadCodePoint = codes "BadCodePoint"
exception_cause_name exception.BadBytes = codes "BadBytes"
exception_cause_name exception.DuplicateCodePoint = codes "DuplicateCodePoint"
exception_cause_name exception.OutOfMemory = codes "OutOfMemory"

abbrev pub cause_name : FileCause → List ℕ
cause_name (of.Index cause) = index_cause_name cause
cause_name (of.Exceptions cause) = exception_cause_name cause
