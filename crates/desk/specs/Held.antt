-- What a desk holds, one document after another, in the order of their names' bytes.
use Rattle.std.specs.Prelude.{◌≡◌, ℕ, ◌≤◌, true, List, length, Ok, Option, slice_get}
use Rattle.std.specs.FinMap.{entries}
use Rattle.index_loader.specs.Files.{Files}
use Rattle.piece_rope.specs.Edits.{document_limit}
use Rattle.desk.specs.{Documents.Entry, Documents.Names, Documents.entry, Documents.max_number, Open.admitted}

-- the document of this number with its name, if there are more
abbrev pub held_at : Names → ℕ → Option (List ℕ × Entry)
held_at documents n = slice_get (entries documents) n

-- A desk with these index files and with a place for one more document could adopt it as it is.
pub record IsAdoptable (indexes : Files) (h : Entry) : Type 0 where
  pub admits : admitted indexes true h.setting h.bytes h.revision ≡ Ok (entry h.setting h.bytes h.revision)
  pub bytes : length h.bytes ≤ document_limit
  pub revision : h.revision ≤ max_number
