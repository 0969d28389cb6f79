-- The values of which replies are made.
use Rattle.std.specs.Prelude.{List, [], ◌∷◌, length}
pub use Rattle.std.specs.Prelude.{ℕ, codes}
use Rattle.base64.specs.{Engines.standard, GeneralPurpose.encode_of}
use Rattle.serde_json.specs.Data.{number, unsigned, Items, no_items, item}
pub use Rattle.serde_json.specs.Data.{Data, null, boolean, string, array, object, no_members, member}
pub use Rattle.enc_names.specs.Names.{name_of}
use Rattle.enc_names.specs.declared.{encoding.Encoding.Encoding, place.Place.Place}
use Rattle.desk.specs.Documents.{Entry}
use Rattle.position_map.specs.declared.position.Position.{Position as TextPosition}

abbrev pub whole : ℕ → Data
whole n = number (unsigned n)

-- bytes in base64 (RFC 4648, section 4)
abbrev pub base64 : List ℕ → Data
base64 bytes = string (encode_of standard bytes)

-- the items of a list, each by its data
abbrev pub items_of : {A : Type 0} → (A → Data) → List A → Items
items_of json [] = no_items
items_of json (x ∷ xs) = item (json x) (items_of json xs)

abbrev pub numbers_data : List ℕ → Data
numbers_data ns = array (items_of whole ns)

abbrev pub place_data : Place → Data
place_data p = numbers_data (p.from ∷ p.to ∷ [])

-- an encoding by its name
abbrev pub encoding_data : Encoding → Data
encoding_data e = string (name_of e)

-- a document on the desk: how many bytes it has, its name, its declared encoding and its revision
abbrev pub document_data : List ℕ × Entry → Data
document_data d =
    object (member (codes "bytes") (whole (length d.1.bytes)) (member (codes "doc") (string d.0)
    (member (codes "given") (encoding_data d.1.setting.given) (member (codes "rev") (whole d.1.revision) no_members))))

-- a line and the units on it
abbrev pub point_data : TextPosition → Data
point_data p = object (member (codes "character") (whole p.character) (member (codes "line") (whole p.line) no_members))
