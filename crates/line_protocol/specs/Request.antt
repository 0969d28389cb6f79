-- The request in a line.
use Rattle.std.specs.Prelude.{◌≡◌, ◌<◌, ℕ, List, [], ◌∷◌, length, codes, if◌then◌else◌, is_some, Some, None, Result, Ok, Err}
use Rattle.std.specs.Str.{bytes_eq}
use Rattle.serde_json.specs.{Data.Data, Find.as_object, View.view, declared.value.Value.Value}
use Rattle.enc_names.specs.Json.{json_of}
use Rattle.desk.specs.{Commands.Asked, Commands.asked, Documents.max_number, declared.overview.Overview.Overview}
use Rattle.line_protocol.specs.declared.request.{field.Field.Field, refusal.Refusal.Refusal}
use Rattle.line_protocol.specs.declared.request.refusal.Refusal.TheVariants.{BadJson, BadRequest, UnknownOp, OutOfMemory}
use Rattle.line_protocol.specs.declared.request.field.Field.TheVariants as field
use Rattle.line_protocol.specs.Fields.{◌>>=◌, need, number_at, text_at, on_document}
use Rattle.line_protocol.specs.Ops.{DeskOp, Op, desk_ops, ops}
use Rattle.line_protocol.specs.declared.request.wanted.Wanted.{Wanted, TheVariants.Document, TheVariants.Desk}

-- what a request asks: something at the name of a document, or about the desk as a whole
pub data Request : Type 0 where
  AtDocument : Asked → Request
  OfDesk : Overview → Request

-- ---- the value of a line

abbrev pub json_of_line : List ℕ → Result Data Refusal
json_of_line line = need BadJson (json_of line)

-- ---- the command of an op

abbrev pub with_id : {A : Type 0} → (A → Request) → ℕ → Result A Field → Result (ℕ × Request) Refusal
with_id asks id (Ok x) = Ok (id, asks x)
with_id asks id (Err f) = Err (BadRequest (Some id) f)

-- that of the first op of the desk as a whole that has the name
abbrev pub overview_in : List DeskOp → Data → ℕ → List ℕ → Result (ℕ × Request) Refusal
overview_in [] d id op = Err (UnknownOp id)
overview_in (o ∷ os) d id op = if bytes_eq op o.0 then with_id OfDesk id (o.1 d) else overview_in os d id op

-- that of the first op of a document that has the name, and otherwise of the desk
abbrev pub command_in : List Op → Data → ℕ → List ℕ → Result (ℕ × Request) Refusal
command_in [] d id op = overview_in desk_ops d id op
command_in (o ∷ os) d id op = if bytes_eq op o.0 then with_id AtDocument id (on_document o.1 d) else command_in os d id op

abbrev pub command_of : Data → ℕ → List ℕ → Result (ℕ × Request) Refusal
command_of = command_in ops

-- the request in an object: its number, and what it asks
abbrev pub request_of : Data → Result (ℕ × Request) Refusal
request_of d =
    if is_some (as_object d)
    then (do
      id ← need (BadRequest None field.Id) (number_at d (codes "id") max_number)
      op ← need (BadRequest (Some id) field.Op) (text_at d (codes "op"))
      command_of d id op)
    else Err (BadRequest None field.Object)

-- the request in a line
abbrev pub request_of_line : List ℕ → Result (ℕ × Request) Refusal
request_of_line line = json_of_line line >>= request_of

-- ---- what the code returns

abbrev pub wanted_by : Wanted → Request
wanted_by (Document command) = AtDocument (asked command)
wanted_by (Desk overview) = OfDesk overview

abbrev pub request_asked : Result (ℕ × Wanted) Refusal → Result (ℕ × Request) Refusal
request_asked (Ok request) = Ok (request.0, wanted_by request.1)
request_asked (Err e) = Err e

-- the request in an object or its refusal; or memory ran out, which it can for a list of changes alone
abbrev pub IsRequest : Data → Result (ℕ × Wanted) Refusal → Type 0
IsRequest d (Err OutOfMemory) = text_at d (codes "op") ≡ Some (codes "changes")
IsRequest d request = request_asked request ≡ request_of d

-- the value of the line or its refusal, or memory ran out, which it can't on no bytes
abbrev pub IsJsonOfLine : List ℕ → Result Value Refusal → Type 0
IsJsonOfLine line (Ok value) = json_of_line line ≡ Ok (view value)
IsJsonOfLine line (Err OutOfMemory) = 0 < length line
IsJsonOfLine line (Err e) = json_of_line line ≡ Err e
