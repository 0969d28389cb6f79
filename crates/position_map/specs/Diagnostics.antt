-- Where a document's errors are in its text (LSP 3.17, "Diagnostic" and "Position"; docs/ENCODINGS.md, "Places").
use Rattle.std.specs.Prelude.{ℕ, ◌+◌, List, [], ◌∷◌, ◌++◌, length, map, nat_lt, count_by}
use Rattle.enc_names.specs.declared.place.Place.{Place}
use Rattle.piece_rope.specs.{Decode.Item, Decode.Error, Decode.Placed, Decode.item_code_points, Document.Document, Document.decoded, Document.text_of}
use Rattle.position_map.specs.declared.diagnostic.Diagnostic.{Diagnostic}
use Rattle.position_map.specs.{declared.diagnostic.ErrorAt.ErrorAt, declared.unit.Unit.Unit as TextUnit, Positions.position, Positions.line_at}

-- an item's error, if it is one
abbrev pub error_if : Item → ErrorAt → List ErrorAt
error_if Error e = e ∷ []
error_if item e = []

-- the errors among items, the first of which begins with code point number `n`
abbrev pub errors_from : ℕ → List Placed → List ErrorAt
errors_from n [] = []
errors_from n (p ∷ ps) =
    error_if p.item (record { place = record { from = p.from; to = p.to }; scalar = n }) ++ errors_from (n + length (item_code_points p.item)) ps

abbrev pub all_errors : Document → List ErrorAt
all_errors d = errors_from 0 (decoded d).items

-- an error as it is shown: from the position of its code point to the position after it
abbrev pub diagnostic_at : List ℕ → TextUnit → ErrorAt → Diagnostic
diagnostic_at text unit e = record { place = e.place; range = record { start = position text unit e.scalar; end = position text unit (e.scalar + 1) } }

-- the errors of a document in order, as they are shown
unfoldable pub diagnostics_of : Document → TextUnit → List Diagnostic
diagnostics_of d unit = map (diagnostic_at (text_of d) unit) (all_errors d)

abbrev pub place_in : Diagnostic → Place
place_in x = x.place

-- how many errors are on lines before a line: the number of the first one on it or after it
unfoldable pub errors_before_line : Document → ℕ → ℕ
errors_before_line d line = count_by (λ (e : ErrorAt). nat_lt (line_at (text_of d) e.scalar) line) (all_errors d)
