-- The first line of a record: what the file is, and with which index files and labels its commands were answered.
use Rattle.std.specs.Prelude.{ℕ, ◌==◌, ◌||◌, ◌&&◌, Bool, List, [], ◌∷◌, ◌++◌, codes, if◌then◌else◌}
use Rattle.std.specs.List.{starts_with}
use Rattle.hex.specs.Hex.{encode_lower}
use Rattle.records.specs.declared.header.Origin.{Origin}
use Rattle.records.specs.declared.header.Beginning.{Beginning}
use Rattle.records.specs.declared.header.Beginning.TheVariants.{Empty, Header, TornHeader, OtherFiles, OtherVersion, Old, Foreign}

-- ---- the line

-- the words before the version
abbrev pub format_words : List ℕ
format_words = codes "# gate record "

-- the words that begin a record of this version
abbrev pub version_words : List ℕ
version_words = codes "# gate record 1 "

abbrev pub labels_words : Origin → List ℕ
labels_words o = codes " labels " ++ (encode_lower o.labels ++ 10 ∷ [])

abbrev pub exceptions_words : Origin → List ℕ
exceptions_words o = codes " exceptions " ++ (encode_lower o.exceptions ++ labels_words o)

-- The first line of a record, with its line feed: a comment that names the format and its version. The SHA-256 of the index files, of the
-- exceptions and of the labels follow.
abbrev pub header_line : Origin → List ℕ
header_line o = codes "# gate record 1 indexes " ++ (encode_lower o.indexes ++ exceptions_words o)

-- ---- what a file is, by its first bytes

abbrev pub begins : List ℕ → List ℕ → Bool
begins word text = starts_with (λ a b. a == b) text word

-- a record without a first line began with an event, or with a line of a head
abbrev pub begins_old : List ℕ → Bool
begins_old text = begins (codes "open ") text || (begins (codes "part ") text || begins (codes "adopt ") text)

-- a file whose first line isn't the one that is expected, whole or torn off
abbrev pub another : List ℕ → Beginning
another front =
    if begins version_words front then OtherFiles
    else (if begins format_words front then OtherVersion else (if begins_old front then Old else Foreign))

-- whether the bytes are a front of the line, and more than the words before the version
abbrev pub is_torn : List ℕ → List ℕ → Bool
is_torn header front = begins format_words front && begins front header

-- the same of a file that doesn't begin with the line
abbrev pub without_line : List ℕ → List ℕ → Beginning
without_line header front = if is_torn header front then TornHeader else another front

-- what a file is that begins with these bytes, if a record's first line is `header`
abbrev pub beginning_of : List ℕ → List ℕ → Beginning
beginning_of header [] = Empty
beginning_of header (b ∷ front) = if begins header (b ∷ front) then Header else without_line header (b ∷ front)
