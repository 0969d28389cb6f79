-- The kinds of index files (Encoding Standard, "Indexes"), which of them each encoding needs, and their places in a collection of indexes.
use Rattle.std.specs.Prelude.{Bool, true, false, ◌&&◌, not, List, [], ◌∷◌, ◌++◌, map, filter, ℕ, Option, position}
use denote.Enum.Bare.{sameb}
use Rattle.enc_names.specs.{contracts.encoding.Encoding.the_type, declared.encoding.Encoding.Encoding, Names.encodings}
use Rattle.enc_names.specs.declared.encoding.Encoding.TheVariants as name
use Rattle.index_loader.specs.declared.kind.{IndexKind.IndexKind, PairEncoding.PairEncoding}
use Rattle.index_loader.specs.declared.kind.IndexKind.TheVariants as file
use Rattle.index_loader.specs.declared.kind.PairEncoding.TheVariants as pair
use Rattle.index_loader.specs.contracts.kind.IndexKindPartialEq.TheImpl as one
use Rattle.index_loader.specs.declared.family.Family.{Family}
use Rattle.index_loader.specs.declared.family.Family.TheVariants as of

-- both are one kind
abbrev pub same_kind : IndexKind → IndexKind → Bool
same_kind a b = one.ghosts.eq a b

-- the kind under which a kind's file is kept; ISO-8859-8-I has the file of ISO-8859-8, and Shift_JIS that of JIS X 0208
abbrev pub home_of : IndexKind → IndexKind
home_of (file.SingleByte name.Iso8859_8I) = file.SingleByte name.Iso8859_8
home_of (file.Pair pair.ShiftJis) = file.Jis0208
home_of kind = kind

-- the greatest pointer of a kind; of the ranges, before the row of the planes above the first
abbrev pub greatest_pointer : IndexKind → ℕ
greatest_pointer (file.SingleByte _) = 127
greatest_pointer (file.Pair pair.ShiftJis) = 11279
greatest_pointer (file.Pair pair.EucKr) = 23939
greatest_pointer (file.Pair pair.Big5) = 19781
greatest_pointer file.Jis0208 = 11279
greatest_pointer file.Jis0212 = 8835
greatest_pointer file.Gb18030 = 23939
greatest_pointer file.Gb18030Ranges = 39419
greatest_pointer file.Katakana = 62

-- the family of an encoding of single bytes and pairs
abbrev pub pairs_by : PairEncoding → Family IndexKind
pairs_by encoding = of.Pair encoding (file.Pair encoding)

-- which encodings share a decoder (Encoding Standard, "Names and labels" and "Legacy single-byte encodings"): an encoding's family, with the
-- kinds of the files that it needs. The single-byte encodings have one, each over its own index file, and GBK has that of gb18030;
-- ISO-2022-JP is served with its encoder's file or not at all
abbrev pub family_of : Encoding → Family IndexKind
family_of name.Utf8 = of.Utf8
family_of name.Gbk = of.Gb18030 file.Gb18030 file.Gb18030Ranges
family_of name.Gb18030 = of.Gb18030 file.Gb18030 file.Gb18030Ranges
family_of name.EucJp = of.EucJp file.Jis0208 file.Jis0212
family_of name.Iso2022Jp = of.Iso2022Jp file.Jis0208 file.Katakana
family_of name.ShiftJis = pairs_by pair.ShiftJis
family_of name.EucKr = pairs_by pair.EucKr
family_of name.Big5 = pairs_by pair.Big5
family_of name.Replacement = of.Replacement
family_of name.Utf16Be = of.Utf16Be
family_of name.Utf16Le = of.Utf16Le
family_of name.XUserDefined = of.XUserDefined
family_of encoding = of.SingleByte (file.SingleByte encoding)

-- there are index files of this kind: of an encoding they are if its decoder is the single-byte one
abbrev is_single_byte : Family IndexKind → Bool
is_single_byte (of.SingleByte _) = true
is_single_byte _ = false

abbrev pub has_files_of : IndexKind → Bool
has_files_of (file.SingleByte e) = is_single_byte (family_of e)
has_files_of kind = true

-- the single-byte encodings that have a file of their own: all but ISO-8859-8-I
abbrev pub single_byte_encodings : List Encoding
single_byte_encodings = filter (λ e. has_files_of (file.SingleByte e) && not (sameb the_type e name.Iso8859_8I)) encodings

-- the kinds at their places, in the order in which the files of a folder are read
abbrev pub kinds : List IndexKind
kinds =
    map file.SingleByte single_byte_encodings ++ file.Jis0208 ∷ file.Jis0212 ∷ file.Katakana ∷ file.Pair pair.EucKr ∷ file.Pair pair.Big5
    ∷ file.Gb18030 ∷ file.Gb18030Ranges ∷ []

-- the place of a kind's file, if there are files of this kind
unfoldable pub slot_of : IndexKind → Option ℕ
slot_of kind = position (same_kind (home_of kind)) kinds
