-- Labels of encodings and how one is looked up (Encoding Standard, "get an encoding").
use Rattle.std.specs.Prelude.{ℕ, Bool, ◌-◌, List, [], ◌∷◌, map, length, take, drop, Option, Some, None, if◌then◌else◌}
use Rattle.std.specs.{Char.is_ascii_whitespace, Char.to_ascii_lowercase, List.prefix_len, List.suffix_len, Str.bytes_eq}
use Rattle.enc_names.specs.{declared.encoding.Encoding.Encoding, Names.name_of, Names.encodings}

-- labels with their encodings; of two equal labels the first counts
abbrev pub LabelTable : Type 0
LabelTable = List (List ℕ × Encoding)

-- without the ASCII whitespace 09, 0A, 0C, 0D, 20 at the front
abbrev pub behind_whitespace : List ℕ → List ℕ
behind_whitespace label = drop (prefix_len is_ascii_whitespace label) label

-- without the ASCII whitespace at both ends
abbrev pub stripped : List ℕ → List ℕ
stripped label =
    take (length (behind_whitespace label) - suffix_len is_ascii_whitespace (behind_whitespace label)) (behind_whitespace label)

-- ASCII lower case
abbrev pub folded : List ℕ → List ℕ
folded text = map to_ascii_lowercase text

-- the text is the label, once whitespace is stripped from the text's ends, and ASCII case apart
abbrev pub matches : List ℕ → List ℕ → Bool
matches text label = bytes_eq (folded (stripped text)) (folded label)

-- the encoding of the first label that the text is
abbrev pub lookup_in : LabelTable → List ℕ → Option Encoding
lookup_in [] text = None
lookup_in (entry ∷ entries) text = if matches text entry.0 then Some entry.1 else lookup_in entries text

-- each name as a label
abbrev pub labels_of : List Encoding → LabelTable
labels_of [] = []
labels_of (e ∷ es) = (name_of e, e) ∷ labels_of es

-- the names alone, as labels
abbrev pub name_labels : LabelTable
name_labels = labels_of encodings
