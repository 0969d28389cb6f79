-- Opening a document, and adopting one.
use Rattle.std.specs.Prelude.{ℕ, List, if◌then◌else◌, Bool, Option, Some, None, is_some, Result, Err}
use Rattle.enc_names.specs.{declared.bom.Bom.Bom, declared.encoding.Encoding.Encoding, declared.setting.Setting.Setting, Settings.setting_of}
use Rattle.index_loader.specs.Files.{Files, has_files}
use Rattle.piece_rope.specs.Edits.{open_fault}
use Rattle.desk.specs.{Documents.Entry, Documents.entry, Documents.edit_reply, Documents.unless, Effects.Effect, Effects.refused, Effects.put}
use Rattle.desk.specs.declared.fault.Fault.{Fault, TheVariants.NameTaken, TheVariants.UnknownLabel, TheVariants.NoIndex, TheVariants.TooManyDocuments}

-- a document at a revision, unless its encoding can't be decoded, no place is free, or it is too large
abbrev pub admitted : Files → Bool → Setting → List ℕ → ℕ → Result Entry Fault
admitted indexes place setting bytes rev =
    if has_files indexes setting.given
    then (if place
    then unless (open_fault indexes setting.given bytes) (entry setting bytes rev)
    else Err TooManyDocuments)
    else Err NoIndex

-- the label may name an encoding
abbrev pub opened_as : Files → Bool → List ℕ → Option Encoding → Bom → Effect
opened_as indexes place bytes None bom = refused UnknownLabel
opened_as indexes place bytes (Some given) bom = put (edit_reply indexes) (admitted indexes place (setting_of given bom) bytes 0)

-- the name has to be free
abbrev pub opened : Files → Bool → Option Entry → List ℕ → Option Encoding → Bom → Effect
opened indexes place found bytes given bom = if is_some found then refused NameTaken else opened_as indexes place bytes given bom

-- a document taken over with its revision, or why it is refused
abbrev pub adopted : Files → Bool → Option Entry → Setting → List ℕ → ℕ → Result Entry Fault
adopted indexes place found setting bytes rev = if is_some found then Err NameTaken else admitted indexes place setting bytes rev
