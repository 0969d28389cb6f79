-- The fields of a request, each by its kind, over the data of its JSON text. If a key occurs twice, the last one counts. A number with a
-- fraction, an exponent or a minus sign isn't a whole number.
use Rattle.std.specs.Prelude.{ℕ, ◌||◌, ◌==◌, nat_lt, nat_le, List, [], ◌∷◌, length, codes, if◌then◌else◌, is_some, Option, Some, None, option_and_then, Err}
use Rattle.std.specs.{Str.bytes_eq, Option.option_map}
pub use Rattle.std.specs.Prelude.{Result, Ok}
use Rattle.serde_json.specs.Data.{Data, null, Items, no_items, item}
use Rattle.serde_json.specs.{Events.items_len, Find.get, Find.as_number, Find.as_u64, Find.as_str, Find.as_array}
use Rattle.enc_names.specs.declared.bom.Bom.{Bom, TheVariants.Sniff, TheVariants.Keep}
use Rattle.desk.specs.{Changes.TextChange, Commands.Asked, Commands.asked_of}
use Rattle.desk.specs.declared.page_start.PageStart.{PageStart, TheVariants.Number, TheVariants.Line}
use Rattle.desk.specs.declared.place_unit.PlaceUnit.{PlaceUnit, TheVariants.Byte, TheVariants.Text}
use Rattle.desk.specs.declared.text_mode.TextMode.{TextMode, TheVariants.Replacement, TheVariants.Fatal}
pub use Rattle.desk.specs.{Commands.Ask, Documents.max_number}
use Rattle.position_map.specs.declared.position.{Position.Position, Range.Range}
use Rattle.position_map.specs.declared.unit.Unit.{Unit as TextUnit, TheVariants.Utf8, TheVariants.Utf16, TheVariants.Utf32}
use Rattle.encoders.specs.declared.mode.EncodeMode.{EncodeMode}
pub use Rattle.line_protocol.specs.declared.request.field.Field.{Field}
use Rattle.encoders.specs.declared.mode.EncodeMode.TheVariants as encode_mode
use Rattle.line_protocol.specs.declared.request.field.Field.TheVariants as field

infixl 10 ◌>>=◌
abbrev pub ◌>>=◌ : {A B E : Type 0} → Result A E → (A → Result B E) → Result B E
(Ok x) >>= f = f x
(Err e) >>= f = Err e

abbrev pub need : {A E : Type 0} → E → Option A → Result A E
need e None = Err e
need e (Some x) = Ok x

-- ---- a field

abbrev pub max_entries : ℕ
max_entries = 10000

abbrev pub at_most : ℕ → ℕ → Option ℕ
at_most most n = if nat_le n most then Some n else None

abbrev pub number_at : Data → List ℕ → ℕ → Option ℕ
number_at d name most = option_and_then (at_most most) (option_and_then as_u64 (option_and_then as_number (get name d)))

abbrev pub text_at : Data → List ℕ → Option (List ℕ)
text_at d name = option_and_then as_str (get name d)

-- the most bytes of a document's name
abbrev pub max_name_len : ℕ
max_name_len = 64

-- a text of 1 to 64 bytes
abbrev pub as_name : List ℕ → Option (List ℕ)
as_name text = if (length text == 0) || nat_lt max_name_len (length text) then None else Some text

abbrev pub name_at : Data → Option (List ℕ)
name_at d = option_and_then as_name (text_at d (codes "doc"))

abbrev pub as_text_mode : List ℕ → Option TextMode
as_text_mode text =
    if bytes_eq text (codes "replacement") then Some Replacement
    else (if bytes_eq text (codes "fatal") then Some Fatal else None)

abbrev pub or_replacement : Option Data → Option TextMode
or_replacement None = Some Replacement
or_replacement (Some d) = option_and_then as_text_mode (as_str d)

-- the mode of a text: `replacement` if it is missing
abbrev pub text_mode_at : Data → Option TextMode
text_mode_at d = or_replacement (get (codes "mode") d)

abbrev pub as_encode_mode : List ℕ → Option EncodeMode
as_encode_mode text =
    if bytes_eq text (codes "fatal") then Some encode_mode.Fatal
    else (if bytes_eq text (codes "html") then Some encode_mode.Html else None)

abbrev pub or_fatal : Option Data → Option EncodeMode
or_fatal None = Some encode_mode.Fatal
or_fatal (Some d) = option_and_then as_encode_mode (as_str d)

-- the mode of an encoding: `fatal` if it is missing
abbrev pub encode_mode_at : Data → Option EncodeMode
encode_mode_at d = or_fatal (get (codes "mode") d)

abbrev pub as_bom : List ℕ → Option Bom
as_bom text =
    if bytes_eq text (codes "sniff") then Some Sniff
    else (if bytes_eq text (codes "keep") then Some Keep else None)

abbrev pub or_sniff : Option Data → Option Bom
or_sniff None = Some Sniff
or_sniff (Some d) = option_and_then as_bom (as_str d)

-- what becomes of a byte order mark, which is looked for where the field is absent
abbrev pub bom_at : Data → Option Bom
bom_at d = or_sniff (get (codes "bom") d)

-- a unit by its name in LSP
abbrev pub as_unit : List ℕ → Option TextUnit
as_unit text =
    if bytes_eq text (codes "utf-8") then Some Utf8
    else (if bytes_eq text (codes "utf-16") then Some Utf16
    else (if bytes_eq text (codes "utf-32") then Some Utf32 else None))

abbrev pub or_utf16 : Option Data → Option TextUnit
or_utf16 None = Some Utf16
or_utf16 (Some d) = option_and_then as_unit (as_str d)

-- the unit of a position: `utf-16` if it is missing
abbrev pub unit_at : Data → Option TextUnit
unit_at d = or_utf16 (get (codes "unit") d)

abbrev pub as_place_unit : List ℕ → Option PlaceUnit
as_place_unit text = if bytes_eq text (codes "byte") then Some Byte else option_map Text (as_unit text)

-- what the value of `place` counts, which has to be there
abbrev pub place_unit_at : Data → Option PlaceUnit
place_unit_at d = option_and_then as_place_unit (text_at d (codes "unit"))

abbrev pub or_none : Option Data → Option (Option TextUnit)
or_none None = Some None
or_none (Some d) = option_map Some (option_and_then as_unit (as_str d))

-- the unit of positions: if it is missing, none are wanted
abbrev pub optional_unit_at : Data → Option (Option TextUnit)
optional_unit_at d = or_none (get (codes "unit") d)

-- ---- where a page of errors begins

-- at the number `from`, or, where `line` is there in its place, at that line; of both together `line` is the faulty one
abbrev pub page_start_at : Data → Result PageStart Field
page_start_at d =
    if is_some (get (codes "line") d)
    then (if is_some (get (codes "from") d)
    then Err field.Line
    else need field.Line (option_map Line (number_at d (codes "line") max_number)))
    else need field.From (option_map Number (number_at d (codes "from") max_number))

-- ---- the range of a change

abbrev pub position_of : ℕ → ℕ → Position
position_of line character = record { line = line; character = character }

abbrev pub range_of : Position → Position → Range
range_of start end = record { start = start; end = end }

-- a position: both of its numbers have to be there
abbrev pub as_position : Data → Option Position
as_position d =
    option_and_then (λ line. option_map (position_of line) (number_at d (codes "character") max_number)) (number_at d (codes "line") max_number)

abbrev pub position_at : Data → List ℕ → Option Position
position_at d name = option_and_then as_position (get name d)

abbrev pub as_range : Data → Option Range
as_range d = option_and_then (λ start. option_map (range_of start) (position_at d (codes "end"))) (position_at d (codes "start"))

abbrev pub or_whole : Option Data → Option (Option Range)
or_whole None = Some None
or_whole (Some null) = Some None
or_whole (Some d) = option_map Some (as_range d)

-- the range of a change; none means the whole text, and so does a missing or null field
abbrev pub range_at : Data → Option (Option Range)
range_at d = or_whole (get (codes "range") d)

-- ---- a list of changes

abbrev pub text_change : Option Range → List ℕ → TextChange
text_change range text = record { range = range; text = text }

-- a change of a list: its text has to be there
abbrev pub as_change : Data → Option TextChange
as_change d = option_and_then (λ range. option_map (text_change range) (text_at d (codes "text"))) (range_at d)

-- each element is a change
abbrev pub as_changes : Items → Option (List TextChange)
as_changes no_items = Some []
as_changes (item d ds) = option_and_then (λ change. option_map (λ more. change ∷ more) (as_changes ds)) (as_change d)

-- the most changes of a list
abbrev pub max_changes : ℕ
max_changes = 1000

abbrev pub few_items : Items → Option Items
few_items ds = if nat_le (items_len ds) max_changes then Some ds else None

-- the list of changes, which has to be there
abbrev pub changes_at : Data → Option (List TextChange)
changes_at d = option_and_then as_changes (option_and_then few_items (option_and_then as_array (get (codes "changes") d)))

-- ---- an op

-- what an op's fields ask of the document that the first of them names
abbrev pub on_document : (Data → Result Ask Field) → Data → Result Asked Field
on_document fields d = do
  doc ← need field.Doc (name_at d)
  ask ← fields d
  Ok (asked_of doc ask)
