-- What the open documents stand for. Nothing here has to be believed.
use Rattle.std.specs.Prelude.{◌≡◌, ◌≤◌, true, List, String, None, map, string_bytes, Result, Ok, Err}
use Rattle.std.specs.{List.All, Map.values_of, declared.alloc.Global.Global, FinMap.from_entries}
use Rattle.index_loader.specs.Files.{Files, has_files}
use Rattle.desk.specs.{declared.fault.Fault.Fault, declared.open_document.OpenDocument.OpenDocument, Documents.Entry, Documents.Names, Documents.max_number}

-- an open document, without its index files
abbrev pub entry_of : OpenDocument → Entry
entry_of k = record { setting = k.document.setting; bytes = k.document.bytes; revision = k.revision; log = k.log }

-- what was opened, without its index files, or why nothing was
abbrev pub opened_entry : Result OpenDocument Fault → Result Entry Fault
opened_entry (Ok k) = Ok (entry_of k)
opened_entry (Err fault) = Err fault

-- the names with what is held at them
abbrev pub names : List (String Global × OpenDocument) → Names
names es = from_entries (map (λ e. (string_bytes e.0, entry_of e.1)) es)

-- a document was opened with these index files, and no edit of several parts of it is under way
pub record IsIdle (indexes : Files) (k : OpenDocument) : Type 0 where
  pub files : k.document.indexes ≡ indexes
  pub idle : k.document.earlier ≡ None

-- it is so, and its setting and its revision are those of a document that can be adopted
pub record IsAdmitted (indexes : Files) (k : OpenDocument) : Type 0 where
  pub idle : IsIdle indexes k
  pub setting : k.document.setting ≡ k.setting
  pub given : has_files indexes k.setting.given ≡ true
  pub revision : k.revision ≤ max_number

abbrev pub AllOpened : Files → List (String Global × OpenDocument) → Type 0
AllOpened indexes es = All (IsAdmitted indexes) (values_of es)
