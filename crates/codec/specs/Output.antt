-- The output state of a document's decoder (Encoding Standard, "ISO-2022-JP decoder": ISO-2022-JP decoder output state).
use Rattle.std.specs.Prelude.{ℕ, List, drop, Option}
use Rattle.enc_names.specs.declared.setting.Setting.{Setting}
use Rattle.index_loader.specs.declared.family.Family.{Family}
use Rattle.index_loader.specs.declared.family.Family.TheVariants as of
use Rattle.index_loader.specs.{Files.Files, Files.indexes_of, Index.Loaded}
use Rattle.iso2022jp.specs.declared.output.OutputState.{OutputState, TheVariants.Ascii}
use Rattle.codec.specs.{Coding.coding, Coding.coding_state, Mark.in_force, Mark.mark_length}

-- after the bytes; every decoder except that of ISO-2022-JP is always in ASCII
abbrev pub output_in : Family (Option Loaded) → List ℕ → OutputState
output_in (of.Iso2022Jp jis0208 katakana) bytes = (coding_state (coding (of.Iso2022Jp jis0208 katakana)) bytes).output
output_in family bytes = Ascii

-- after the first bytes of a document: that of the effective decoder, after the byte order mark
unfoldable pub output_behind : Files → Setting → List ℕ → OutputState
output_behind files setting bytes = output_in (indexes_of files (in_force setting bytes)) (drop (mark_length setting bytes) bytes)
