-- Places of code points in a document's bytes (docs/ENCODINGS.md, "Places").
use Rattle.std.specs.Prelude.{ℕ, ◌-◌, List, [], ◌∷◌, length, nat_lt, nat_le, if◌then◌else◌, Option, Some, None, Result, Ok, Err}
use Rattle.std.specs.List.{filter}
use Rattle.enc_names.specs.declared.place.Place.{Place}
use Rattle.piece_rope.specs.Decode.{Placed, item_code_points, code_points}
use Rattle.position_map.specs.declared.fault.PosFault.{PosFault, TheVariants.OutOfRange}

-- how many code points the items have that end at or before a byte
abbrev pub scalars_until : ℕ → List Placed → ℕ
scalars_until at ps = length (code_points (filter (λ (p : Placed). nat_le p.to at) ps))

-- the number of code points that a byte offset names; the document's length comes first
unfoldable pub scalar_of_byte : ℕ → List Placed → ℕ → Result ℕ PosFault
scalar_of_byte bytes ps at = if nat_le at bytes then Ok (scalars_until at ps) else Err OutOfRange

-- the place of code point `n`: that of its item
abbrev pub place_of : List Placed → ℕ → Option Place
place_of [] n = None
place_of (p ∷ ps) n =
    if nat_lt n (length (item_code_points p.item))
    then Some (record { from = p.from; to = p.to })
    else place_of ps (n - length (item_code_points p.item))
