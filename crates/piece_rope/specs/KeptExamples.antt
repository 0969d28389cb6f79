-- Documents and index files of the worked examples of kept splices.
use Rattle.std.specs.Prelude.{ℕ, List, [], ◌∷◌}
use Rattle.enc_names.specs.{Settings.setting_of, declared.bom.Bom.TheVariants.Sniff}
use Rattle.enc_names.specs.declared.encoding.Encoding.{Encoding, TheVariants.Big5, TheVariants.Iso2022Jp, TheVariants.ShiftJis}
use Rattle.index_loader.specs.{Files.Files, Files.no_files, Files.with_index, Index.Loaded}
use Rattle.index_loader.specs.declared.kind.IndexKind.TheVariants as kinds
use Rattle.index_loader.specs.declared.kind.PairEncoding.TheVariants as of_pairs
use Rattle.piece_rope.specs.Document.{Document, document}

abbrev pub jis0208 : Loaded
jis0208 = record { kind = kinds.Jis0208; pairs = (1, 0x3001) ∷ (283, 0x3042) ∷ (1410, 0x4E9C) ∷ [] }

abbrev pub katakana : Loaded
katakana = record { kind = kinds.Katakana; pairs = (0, 0x3002) ∷ [] }

abbrev pub big5 : Loaded
big5 = record { kind = kinds.Pair of_pairs.Big5; pairs = (5495, 0x4E00) ∷ [] }

abbrev pub few_files : Files
few_files = with_index (with_index (with_index no_files jis0208) katakana) big5

abbrev pub in_encoding : Encoding → List ℕ → Document
in_encoding given bytes = document few_files (setting_of given Sniff) bytes

-- a lead byte with no trail
abbrev pub lead : Document
lead = in_encoding ShiftJis (0x81 ∷ [])

abbrev pub letter : Document
letter = in_encoding ShiftJis (0x41 ∷ [])

-- two code points of one item
abbrev pub accented : Document
accented = in_encoding Big5 (0x88 ∷ 0x62 ∷ [])

-- a letter, a kana between two switches
abbrev pub shifted : Document
shifted = in_encoding Iso2022Jp (0x41 ∷ 0x1B ∷ 0x24 ∷ 0x42 ∷ 0x24 ∷ 0x22 ∷ 0x1B ∷ 0x28 ∷ 0x42 ∷ [])

-- a kana with no switch after it
abbrev pub unreturned : Document
unreturned = in_encoding Iso2022Jp (0x1B ∷ 0x24 ∷ 0x42 ∷ 0x24 ∷ 0x22 ∷ [])
