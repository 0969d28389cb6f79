-- Worked examples: short index files, and what they hold by the definitions.
use Rattle.std.specs.Prelude.{◌≡◌, ℕ, true, false, List, [], ◌∷◌, ◌++◌, codes, Some, None, Ok, Err}
use Rattle.enc_names.specs.declared.encoding.Encoding.TheVariants.{EucJp, Iso2022Jp, Iso8859_8, Iso8859_8I, ShiftJis, Utf8, Windows1252, XUserDefined}
use Rattle.index_loader.specs.declared.fault.IndexCause.TheVariants.{BadPointer, BadCodePoint, PointerTooLarge, BadRanges, DuplicatePointer}
use Rattle.index_loader.specs.declared.kind.IndexKind.{TheVariants.SingleByte, TheVariants.Jis0208, TheVariants.Jis0212, TheVariants.Gb18030Ranges, IndexKind}
use Rattle.index_loader.specs.{File.pairs_parsed, Files.Files, Files.has_files, Files.index_of, Files.no_files, Files.with_index}
use Rattle.index_loader.specs.Index.{Loaded, code_point_of, last_pointer_of, pointer_from_of, pointer_of}

abbrev pub windows_1252 : IndexKind
windows_1252 = SingleByte Windows1252

-- a line of two fields and its LF
abbrev pub line : List ℕ → List ℕ → List ℕ
line pointer code_point = pointer ++ 0x09 ∷ code_point ++ 0x0A ∷ []

-- files and their faults
pub record FileFaults : Type 0 where
  pub twice : pairs_parsed windows_1252 (line (codes "0") (codes "0x20AC") ++ line (codes "0") (codes "0x81")) ≡ Err (record { line = 2; cause = DuplicatePointer })
  pub large : pairs_parsed windows_1252 (line (codes "128") (codes "0x81")) ≡ Err (record { line = 1; cause = PointerTooLarge })
  pub surrogate : pairs_parsed windows_1252 (line (codes "0") (codes "0xD800")) ≡ Err (record { line = 1; cause = BadCodePoint })
  pub both : pairs_parsed windows_1252 (line (codes "128") (codes "0xD800")) ≡ Err (record { line = 1; cause = BadCodePoint })
  pub letter : pairs_parsed windows_1252 (line (codes "x") (codes "0x81")) ≡ Err (record { line = 1; cause = BadPointer })
  pub sign : pairs_parsed windows_1252 (line (codes "-1") (codes "0x41")) ≡ Err (record { line = 1; cause = BadPointer })
  pub no_field : pairs_parsed windows_1252 (codes "0") ≡ Err (record { line = 1; cause = BadCodePoint })
  pub no_0x : pairs_parsed windows_1252 (line (codes "0") (codes "20AC")) ≡ Err (record { line = 1; cause = BadCodePoint })
  pub no_digits : pairs_parsed windows_1252 (line (codes "0") (codes "0x")) ≡ Err (record { line = 1; cause = BadCodePoint })
  pub too_high : pairs_parsed windows_1252 (line (codes "0") (codes "0x110000")) ≡ Err (record { line = 1; cause = BadCodePoint })
  pub long : pairs_parsed windows_1252 (line (codes "99999999999999999999") (codes "0x41")) ≡ Err (record { line = 1; cause = PointerTooLarge })
  pub behind_comment : pairs_parsed windows_1252 (codes "#" ++ 0x0D ∷ 0x0A ∷ 0x0A ∷ codes "x") ≡ Err (record { line = 3; cause = BadPointer })
  pub no_last_row : pairs_parsed Gb18030Ranges (line (codes "0") (codes "0x80")) ≡ Err (record { line = 0; cause = BadRanges })
  pub other_row : pairs_parsed Gb18030Ranges (line (codes "39420") (codes "0x80")) ≡ Err (record { line = 1; cause = BadRanges })

-- the rows that the ranges need
abbrev pub ranges : List ℕ
ranges = line (codes "189000") (codes "0x10000") ++ line (codes "0") (codes "0x80")

-- files and their pairs
pub record ParsedFiles : Type 0 where
  pub empty : pairs_parsed windows_1252 [] ≡ Ok []
  pub zeros : pairs_parsed windows_1252 (line (codes "00") (codes "0x0000000000000041")) ≡ Ok ((0, 0x41) ∷ [])
  pub any_order : pairs_parsed windows_1252 (line (codes "63") (codes "0xBF") ++ line (codes " 0 ") (codes " 0x20ac ")) ≡ Ok ((0, 0x20AC) ∷ (63, 0xBF) ∷ [])
  pub rows : pairs_parsed Gb18030Ranges ranges ≡ Ok ((0, 0x80) ∷ (189000, 0x10000) ∷ [])

-- a code point with three pointers, and the least ranges
abbrev pub one_code_point : Loaded
one_code_point = record { kind = Jis0208; pairs = (8272, 0x2170) ∷ (10736, 0x2170) ∷ (10800, 0x2170) ∷ [] }

abbrev pub least_ranges : Loaded
least_ranges = record { kind = Gb18030Ranges; pairs = (0, 0x80) ∷ (189000, 0x10000) ∷ [] }

-- look-ups in pairs and in ranges
pub record LookUps : Type 0 where
  pub smallest : pointer_of one_code_point 0x2170 ≡ Some 8272
  pub from_itself : pointer_from_of one_code_point 0x2170 8272 ≡ Some 8272
  pub from : pointer_from_of one_code_point 0x2170 8836 ≡ Some 10736
  pub from_behind : pointer_from_of one_code_point 0x2170 10801 ≡ None
  pub greatest : last_pointer_of one_code_point 0x2170 ≡ Some 10800
  pub absent : pointer_of one_code_point 0x2171 ≡ None
  pub greatest_absent : last_pointer_of one_code_point 0x216F ≡ None
  pub euro : pointer_of least_ranges 0x20AC ≡ Some 8236
  pub behind_euro : pointer_from_of least_ranges 0x20AC 8237 ≡ None
  pub euro_back : code_point_of least_ranges 8236 ≡ Some 0x20AC
  pub exception : code_point_of least_ranges 7457 ≡ Some 0xE7C7
  pub exception_back : last_pointer_of least_ranges 0xE7C7 ≡ Some 7457
  pub ascii : pointer_of least_ranges 0x7F ≡ None
  pub gap : code_point_of least_ranges 39420 ≡ None
  pub before_planes : code_point_of least_ranges 188999 ≡ None
  pub planes : code_point_of least_ranges 189000 ≡ Some 0x10000
  pub last : code_point_of least_ranges 1237575 ≡ Some 0x10FFFF
  pub last_back : pointer_of least_ranges 0x10FFFF ≡ Some 1237575
  pub past : code_point_of least_ranges 1237576 ≡ None

-- the file of the kind with one pair
abbrev pub of_kind : IndexKind → ℕ → ℕ → Loaded
of_kind kind pointer code_point = record { kind = kind; pairs = (pointer, code_point) ∷ [] }

-- the file of ISO-8859-8, and then that of ISO-8859-8-I, which takes its place
abbrev pub visual : Files
visual = with_index no_files (of_kind (SingleByte Iso8859_8) 96 0x05D0)

abbrev pub logical : Files
logical = with_index visual (of_kind (SingleByte Iso8859_8I) 97 0x05D1)

-- jis0208, and then jis0212 too
abbrev pub jis0208 : Files
jis0208 = with_index no_files (of_kind Jis0208 283 0x3042)

abbrev pub both_jis : Files
both_jis = with_index jis0208 (of_kind Jis0212 108 0x02D8)

-- which files are held, and which encodings have all of theirs
pub record FilesHeld : Type 0 where
  pub none_needed : has_files no_files Utf8 ≡ true
  pub by_rule : has_files no_files XUserDefined ≡ true
  pub none : has_files no_files ShiftJis ≡ false
  pub only : has_files jis0208 ShiftJis ≡ true
  pub first : has_files jis0208 EucJp ≡ false
  pub both : has_files both_jis EucJp ≡ true
  pub other : has_files both_jis Iso2022Jp ≡ false
  pub own : has_files visual Iso8859_8 ≡ true
  pub of_another : has_files visual Iso8859_8I ≡ true
  pub replaced : index_of logical (SingleByte Iso8859_8) ≡ Some (of_kind (SingleByte Iso8859_8) 97 0x05D1)
  pub without_file : index_of visual (SingleByte Utf8) ≡ None
  pub of_pairs : index_of visual (SingleByte ShiftJis) ≡ None
