-- How a program over index files ends early: what a file's fault is as its folder's, what the program makes of that, and its exit status.
use denote.Ref.{Bor}
use Rattle.std.specs.Prelude.{ℕ, List}
use Rattle.index_loader.specs.declared.fault.ExceptionCause.{ExceptionCause}
use Rattle.index_loader.specs.declared.fault.ExceptionCause.TheVariants as exception
use Rattle.index_loader.specs.declared.fault.IndexCause.{IndexCause}
use Rattle.index_loader.specs.declared.fault.IndexCause.TheVariants as index
use Rattle.index_files.specs.declared.fault.FileCause.TheVariants as cause
use Rattle.index_files.specs.declared.fault.FolderFault.{FolderFault}
use Rattle.index_files.specs.declared.fault.FolderFault.TheVariants as folder
use Rattle.index_files.specs.declared.failure.EarlyEnd.{EarlyEnd}
use Rattle.index_files.specs.declared.failure.EarlyEnd.TheVariants.{Mistake, CannotRead, Index, Device, OutOfMemory}

-- the fault of an index file of this name, at a line
abbrev pub of_index : Bor (List ℕ) → ℕ → IndexCause → FolderFault
of_index name line index.OutOfMemory = folder.OutOfMemory
of_index name line why = folder.Index (record { name = name; line = line; cause = cause.Index why })

-- and of the file of exceptions
abbrev pub of_exceptions : Bor (List ℕ) → ℕ → ExceptionCause → FolderFault
of_exceptions name line exception.OutOfMemory = folder.OutOfMemory
of_exceptions name line why = folder.Index (record { name = name; line = line; cause = cause.Exceptions why })

-- 2 for a mistake in the words or the files, 1 for a device that failed or memory that ran out
abbrev pub status_of : EarlyEnd → ℕ
status_of (Mistake text) = 2
status_of (CannotRead name) = 2
status_of (Index fault) = 2
status_of (Device error) = 1
status_of OutOfMemory = 1

-- a folder's fault as the program's
abbrev pub of_folder : FolderFault → EarlyEnd
of_folder (folder.CannotRead name) = CannotRead name
of_folder (folder.Index fault) = Index fault
of_folder folder.OutOfMemory = OutOfMemory
