-- The label file: JSON in the form of the Encoding Standard's encodings.json. It is an array of groups, each with a
-- list of encodings, which have a name and a list of labels.
use Rattle.std.specs.Prelude.{ℕ, Bool, List, [], ◌∷◌, codes, if◌then◌else◌, Option, Some, None, option_map, option_and_then, Result, Ok, Err}
use Rattle.std.specs.{List.flat_map, Str.bytes_eq}
use Rattle.serde_json.specs.{Data.Data, Data.Items, Data.no_items, Data.item, Find.get, Find.as_str, Find.as_array}
use Rattle.enc_names.specs.{Json.json_of, Labels.LabelTable, Labels.folded, Names.name_of, Names.encodings, declared.encoding.Encoding.Encoding}
use Rattle.enc_names.specs.declared.labels.LabelFault.{LabelFault, TheVariants.NotJson, TheVariants.BadShape}

-- ---- its shape; other fields are ignored

-- an encoding of the file, as it is written there
pub record ListedEncoding : Type 0 where
  pub name : List ℕ
  pub labels : List (List ℕ)

-- what each item is by f, where f takes all of them
abbrev pub each : {A : Type 0} → (Data → Option A) → Items → Option (List A)
each f no_items = Some []
each f (item d ds) = option_and_then (λ x. option_map (λ xs. x ∷ xs) (each f ds)) (f d)

-- a field's array, each item by f
abbrev pub list_at : {A : Type 0} → Data → List ℕ → (Data → Option A) → Option (List A)
list_at d field f = option_and_then (each f) (option_and_then as_array (get field d))

abbrev pub text_at : Data → List ℕ → Option (List ℕ)
text_at d field = option_and_then as_str (get field d)

abbrev pub listed_of : Data → Option ListedEncoding
listed_of d =
    option_and_then (λ name. option_map (λ labels. record { name = name; labels = labels }) (list_at d (codes "labels") as_str)) (text_at d (codes "name"))

abbrev pub group_of : Data → Option (List ListedEncoding)
group_of d = list_at d (codes "encodings") listed_of

-- the file's groups, or None if the shape is another
abbrev pub groups_of : Data → Option (List (List ListedEncoding))
groups_of d = option_and_then (each group_of) (as_array d)

-- ---- its labels

-- the text is the encoding's name, ASCII case apart
abbrev pub is_named : Encoding → List ℕ → Bool
is_named e name = bytes_eq (folded name) (folded (name_of e))

abbrev pub named_among : List Encoding → List ℕ → Option Encoding
named_among [] name = None
named_among (e ∷ es) name = if is_named e name then Some e else named_among es name

-- the encoding of a name
abbrev pub encoding_named : List ℕ → Option Encoding
encoding_named name = named_among encodings name

-- a label of an encoding, or none if the encoding is unknown
abbrev pub label_of : Option Encoding → List ℕ → LabelTable
label_of None label = []
label_of (Some e) label = (label, e) ∷ []

abbrev pub labels_listed : ListedEncoding → LabelTable
labels_listed listed = flat_map (label_of (encoding_named listed.name)) listed.labels

-- the labels in the file's order, those of unknown encodings left out
abbrev pub table_of_json : Data → Option LabelTable
table_of_json d = option_map (flat_map (flat_map labels_listed)) (groups_of d)

-- ---- its bytes

-- what is there, or else the fault
abbrev pub need : {A : Type 0} → LabelFault → Option A → Result A LabelFault
need fault None = Err fault
need fault (Some x) = Ok x

abbrev pub table_or_fault : Option Data → Result LabelTable LabelFault
table_or_fault None = Err NotJson
table_or_fault (Some d) = need BadShape (table_of_json d)

-- the labels of a label file, or the first fault
abbrev pub labels_of_file : List ℕ → Result LabelTable LabelFault
labels_of_file bytes = table_or_fault (json_of bytes)
