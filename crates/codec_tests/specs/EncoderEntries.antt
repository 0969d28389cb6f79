-- A few entries of the Standard's indexes, and character references, for the encoders' worked examples.
use Rattle.std.specs.Prelude.{ℕ, List, [], ◌∷◌, codes}
use Rattle.index_loader.specs.declared.kind.IndexKind.TheVariants.{Jis0208, Pair, Gb18030, Gb18030Ranges}
use Rattle.index_loader.specs.{declared.kind.PairEncoding.PairEncoding, declared.kind.PairEncoding.TheVariants.Big5, Exceptions.ExceptionTable, Index.Loaded}

abbrev pub jis0208 : Loaded
jis0208 = record { kind = Jis0208; pairs = (60, 0xFF0D) ∷ (283, 0x3042) ∷ (1410, 0x4E9C) ∷ [] }

-- a code point with one of the duplicates, one of the rows after them, and one after these
abbrev pub jis0208_duplicates : Loaded
jis0208_duplicates = record { kind = Jis0208; pairs = (8272, 0x2170) ∷ (10736, 0x2170) ∷ (10800, 0x2170) ∷ [] }

abbrev pub jis0208_duplicate_alone : Loaded
jis0208_duplicate_alone = record { kind = Jis0208; pairs = (8272, 0x2170) ∷ [] }

-- an index with one entry
abbrev pub entry_of : PairEncoding → ℕ → ℕ → Loaded
entry_of encoding pointer code_point = record { kind = Pair encoding; pairs = (pointer, code_point) ∷ [] }

-- two code points with a pointer of the Hong Kong supplement and two others, one of which takes the last
abbrev pub big5_twice : Loaded
big5_twice = record { kind = Pair Big5; pairs = (1000, 0x5341) ∷ (1001, 0x5140) ∷ (5287, 0x5341) ∷ (5288, 0x5140) ∷ (5512, 0x5341) ∷ (5513, 0x5140) ∷ [] }

abbrev pub gb18030 : Loaded
gb18030 = record { kind = Gb18030; pairs = (0, 0x4E02) ∷ (1, 0x4E04) ∷ (9026, 0x554A) ∷ [] }

abbrev pub gb18030_ranges : Loaded
gb18030_ranges = record { kind = Gb18030Ranges; pairs = (0, 0x80) ∷ (189000, 0x10000) ∷ [] }

-- exceptions that stand in the way of each step of the gb18030 encoder
abbrev pub exceptions : ExceptionTable
exceptions = (0x41, 0x81 ∷ 0x40 ∷ []) ∷ (0x20AC, 0xA2 ∷ 0xE3 ∷ []) ∷ (0x4E04, 0xB0 ∷ 0xA1 ∷ []) ∷ (0xE5E5, 0xA3 ∷ 0xA0 ∷ []) ∷ (0xE7C7, 0xA8 ∷ 0xBC ∷ []) ∷ []

-- the character references of U+1F600, U+FFFD and U+E7C7
abbrev pub grinning_face_reference : List ℕ
grinning_face_reference = codes "&#128512;"

abbrev pub replacement_reference : List ℕ
replacement_reference = codes "&#65533;"

abbrev pub private_use_reference : List ℕ
private_use_reference = codes "&#59335;"
