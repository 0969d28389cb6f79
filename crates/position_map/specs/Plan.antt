-- Changes of a range of the text, planned as splices of the bytes (docs/PROTOCOL.md).
use Rattle.std.specs.Prelude.{◌≡◌, ⊤, ℕ, ◌+◌, ◌-◌, ◌≤◌, ◌==◌, eqb, nat_le, nat_lt, Bool, true, false, ◌||◌, ◌&&◌, List, [], ◌∷◌, ◌++◌, length, drop, Option}
use Rattle.std.specs.Prelude.{Some, None, Result, Ok, Err, if◌then◌else◌}
use Rattle.std.specs.{List.starts_with, Str.chars}
use Rattle.enc_names.specs.declared.encoding.Encoding.{Encoding, TheVariants.Iso2022Jp}
use Rattle.encoders.specs.declared.fault.EncodeFault.{EncodeFault, TheVariants.Unencodable as unencodable, TheVariants.OutOfMemory as no_memory}
use Rattle.encoders.specs.{Encode.encoded_in, Encode.bytes_only, Steps.Put, Steps.Unencodable as NoBytes, Steps.encoded_iso, Steps.escape_of}
use Rattle.piece_rope.specs.Decode.{OutputState, Ascii, Roman, Katakana, Jis0208, Item, Placed, item_code_points}
use Rattle.piece_rope.specs.{Document.Document, Document.decoded, Document.text_of, Outputs.output_at}
use Rattle.position_map.specs.{Positions.offset_of, declared.change_fault.ChangeFault.ChangeFault}
use Rattle.position_map.specs.declared.change_fault.ChangeFault.TheVariants.{OutOfRange, SplitsCharacter, SplitsItem, NoEncoder, Unencodable, OutOfMemory}
use Rattle.position_map.specs.declared.fault.PosFault.{PosFault, TheVariants.OutOfRange as past_the_end, TheVariants.SplitsCharacter as inside_a_character}
use Rattle.position_map.specs.declared.insertion.Insertion.{Insertion, TheVariants.Text as text_alone, TheVariants.Bytes as bytes_alone}
use Rattle.position_map.specs.declared.{plan.Plan.Plan, position.Position.Position, position.Range.Range, unit.Unit.Unit as TextUnit}

-- how many code points an item has
abbrev pub item_width : Item → ℕ
item_width item = length (item_code_points item)

-- The byte at which the bytes are cut before code point number `n` of the items. It is the end of the item of the code point before it; before
-- the first code point it is the given byte. There is none inside an item of two code points.
abbrev pub cut_at : ℕ → List Placed → ℕ → Option ℕ
cut_at at [] n = if n == 0 then Some at else None
cut_at at (p ∷ ps) n =
    if n == 0 then Some at
    else (if nat_le (item_width p.item) n then cut_at p.to ps (n - item_width p.item) else None)

-- before the first code point of a document it is the end of the byte order mark
abbrev pub cut : Document → ℕ → Option ℕ
cut d n = cut_at (decoded d).bom (decoded d).items n

-- whether the bytes begin with an escape that ISO-2022-JP has
abbrev pub begins_with_escape : List ℕ → Bool
begins_with_escape bytes =
    starts_with eqb bytes (escape_of Ascii) || (starts_with eqb bytes (escape_of Roman) || (starts_with eqb bytes (escape_of Katakana)
    || (starts_with eqb bytes (escape_of Jis0208) || starts_with eqb bytes (0x1B ∷ 0x24 ∷ 0x40 ∷ []))))

abbrev pub same_output : OutputState → OutputState → Bool
same_output Ascii Ascii = true
same_output Roman Roman = true
same_output Katakana Katakana = true
same_output Jis0208 Jis0208 = true
same_output s r = false

-- the escape that leads from state `s` back to `r`, if one is wanted: none if the next bytes begin with an escape of their own
abbrev pub return_to : OutputState → OutputState → List ℕ → List ℕ
return_to s r behind = if same_output s r || begins_with_escape behind then [] else escape_of r

abbrev pub with_return : OutputState → List ℕ → Result (Put OutputState) NoBytes → Result (Put OutputState) NoBytes
with_return r behind (Ok put) = Ok (record { bytes = put.bytes ++ return_to put.state r behind; state = put.state })
with_return r behind (Err e) = Err e

-- The bytes of a text to be put in, in the effective encoding, in error mode "fatal". In ISO-2022-JP the encoder starts in the output state `s` of
-- the left end. Its step for the end of the queue is left out, and the state leads back to that of the right end, `r`.
abbrev pub put_in : Document → Encoding → OutputState → OutputState → ℕ → List ℕ → Result (List ℕ) EncodeFault
put_in d Iso2022Jp s r right text = bytes_only (with_return r (drop right d.bytes) (encoded_iso d.indexes s text false false))
put_in d encoding s r right text = encoded_in d.indexes encoding false text

-- what replaces a range: a text, by its bytes, or bytes that are given
pub data Inserted : Type 0 where
  Encoded : List ℕ → Inserted
  Given : List ℕ → Inserted

abbrev pub inserted_of : Insertion → Inserted
inserted_of (text_alone text) = Encoded (chars text.now)
inserted_of (bytes_alone bytes) = Given bytes.now

-- the bytes of either; given ones are whatever the output states are
abbrev pub bytes_in : Document → Encoding → OutputState → OutputState → ℕ → Inserted → Result (List ℕ) EncodeFault
bytes_in d encoding s r right (Encoded text) = put_in d encoding s r right text
bytes_in d encoding s r right (Given bytes) = Ok bytes

-- the encoder's causes; a missing index file isn't one of them, since a document's files are loaded
abbrev pub encoder_cause : EncodeFault → ChangeFault
encoder_cause (unencodable e) = Unencodable e
encoder_cause no_memory = OutOfMemory
encoder_cause fault = NoEncoder

abbrev pub splice_with : ℕ → ℕ → ℕ → ℕ → Result (List ℕ) EncodeFault → Result Plan ChangeFault
splice_with left right i j (Ok ins) = Ok (record { at = left; del = right - left; ins = ins; i = i; j = j })
splice_with left right i j (Err fault) = Err (encoder_cause fault)

abbrev pub between_cuts : Document → Inserted → ℕ → ℕ → Option ℕ → Option ℕ → Result Plan ChangeFault
between_cuts d new i j (Some left) (Some right) =
    splice_with left right i j (bytes_in d (decoded d).encoding (output_at d left) (output_at d right) right new)
between_cuts d new i j left right = Err SplitsItem

-- the bytes of the code points from `i` to `j` replaced by others
unfoldable pub replacing : Document → Inserted → ℕ → ℕ → Result Plan ChangeFault
replacing d new i j = between_cuts d new i j (cut d i) (cut d j)

-- whether a position follows another, by line and then by character, as they are given
abbrev pub is_behind : Position → Position → Bool
is_behind p q = nat_lt q.line p.line || ((p.line == q.line) && nat_lt q.character p.character)

abbrev pub position_cause : PosFault → ChangeFault
position_cause past_the_end = OutOfRange
position_cause inside_a_character = SplitsCharacter

-- with the offsets of both ends, or the first cause that refuses one
abbrev pub with_ends : (ℕ → ℕ → Result Plan ChangeFault) → Result ℕ PosFault → Result ℕ PosFault → Result Plan ChangeFault
with_ends plan (Ok i) (Ok j) = plan i j
with_ends plan (Ok i) (Err fault) = Err (position_cause fault)
with_ends plan (Err fault) j = Err (position_cause fault)

-- without a range the whole text is replaced
abbrev pub over_range : Document → TextUnit → Inserted → Option Range → Result Plan ChangeFault
over_range d unit new None = replacing d new 0 (length (text_of d))
over_range d unit new (Some range) =
    if is_behind range.start range.end then Err OutOfRange
    else with_ends (replacing d new) (offset_of (text_of d) unit range.start) (offset_of (text_of d) unit range.end)

-- the splice that replaces a range of the text by another text or by given bytes, or the first cause that refuses it
unfoldable pub planned : Document → Option Range → TextUnit → Inserted → Result Plan ChangeFault
planned d range unit new = over_range d unit new range

-- an answer: the plan, or the first cause; a lack of memory can replace any
abbrev pub IsPlanned : Result Plan ChangeFault → Result Plan ChangeFault → Type 0
IsPlanned wanted (Ok plan) = wanted ≡ Ok plan
IsPlanned wanted (Err OutOfMemory) = ⊤
IsPlanned wanted (Err fault) = wanted ≡ Err fault

-- the document has what the splice removes, and the range
pub record FitsText (d : Document) (p : Plan) : Type 0 where
  pub bytes : p.at + p.del ≤ length d.bytes
  pub order : p.i ≤ p.j
  pub within : p.j ≤ length (text_of d)
