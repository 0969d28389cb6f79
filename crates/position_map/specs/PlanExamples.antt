-- Documents and index files of the worked examples of planned changes.
use Rattle.std.specs.Prelude.{ℕ, List, [], ◌∷◌}
use Rattle.enc_names.specs.declared.bom.Bom.TheVariants.{Sniff, Keep}
use Rattle.enc_names.specs.{declared.encoding.Encoding.Encoding, declared.encoding.Encoding.TheVariants.Windows1252, Settings.setting_of}
use Rattle.index_loader.specs.{declared.kind.IndexKind.TheVariants.SingleByte, Files.Files, Files.no_files, Files.with_index, Index.Loaded}
use Rattle.iso2022jp.specs.EncoderExamples.{jis0208_pairs, katakana_pairs}
use Rattle.encoders.specs.Examples.{big5}
use Rattle.piece_rope.specs.Document.{Document, document}
use Rattle.position_map.specs.declared.position.Range.{Range}

abbrev pub windows_1252 : Loaded
windows_1252 = record { kind = SingleByte Windows1252; pairs = (0, 0x20AC) ∷ (59, 0xBB) ∷ (63, 0xBF) ∷ [] }

abbrev pub few_files : Files
few_files = with_index (with_index (with_index (with_index no_files jis0208_pairs) katakana_pairs) big5) windows_1252

abbrev pub in_encoding : Encoding → List ℕ → Document
in_encoding given bytes = document few_files (setting_of given Sniff) bytes

-- the same whose byte order marks are kept
abbrev pub keeping : Encoding → List ℕ → Document
keeping given bytes = document few_files (setting_of given Keep) bytes

-- a range on the first line
abbrev pub on_first_line : ℕ → ℕ → Range
on_first_line start end = record { start = record { line = 0; character = start }; end = record { line = 0; character = end } }
