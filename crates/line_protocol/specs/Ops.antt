-- The table of the ops: the fields of each request, and the object of each reply.
pub mod Bytes
pub mod Change
pub mod Changes
pub mod Close
pub mod Diagnostics
pub mod Documents
pub mod Edited
pub mod Encode
pub mod Errors
pub mod Hello
pub mod Lines
pub mod Offset
pub mod Open
pub mod Place
pub mod Plan
pub mod Position
pub mod Replace
pub mod Since
pub mod Source
pub mod Splice
pub mod Stat
pub mod Text
use Rattle.std.specs.Prelude.{Bool, true, false, List, [], ◌∷◌}
use Rattle.desk.specs.declared.ops.Reply.{Reply}
use Rattle.desk.specs.declared.ops.Reply.TheVariants as replies
use Rattle.line_protocol.specs.Fields.{Ask, Field, Result}
use Rattle.line_protocol.specs.Ops.{Bytes.bytes_data, Change.change_fields, Change.change_data, Changes.changes_fields, Changes.changes_data}
use Rattle.line_protocol.specs.Ops.{Close.close_fields, Close.closed_data, Diagnostics.diagnostics_fields, Diagnostics.diagnostics_data}
use Rattle.line_protocol.specs.Ops.{Edited.edited_data, Encode.encode_fields, Errors.errors_fields, Errors.errors_data, Lines.lines_fields, Lines.lines_data}
use Rattle.line_protocol.specs.Ops.{Offset.offset_fields, Offset.offset_data, Open.open_fields, Place.place_fields, Place.found_place_data}
use Rattle.line_protocol.specs.Ops.{Plan.plan_fields, Plan.plan_data, Position.position_fields, Position.position_data}
use Rattle.line_protocol.specs.Ops.{Replace.replace_fields}
use Rattle.line_protocol.specs.Ops.{Since.since_fields, Since.since_data, Source.source_fields, Splice.splice_fields, Stat.stat_fields, Stat.stat_data}
use Rattle.line_protocol.specs.{Ops.Text.text_fields, Ops.Text.text_data, Replies.reason_data, Replies.fault_reason, Replies.line_of}
use Rattle.line_protocol.specs.Values.{ℕ, Data, codes}
use Rattle.desk.specs.{Desk.Office, Overview.overview_of}
use Rattle.desk.specs.declared.overview.{Overview.Overview, OverviewReply.OverviewReply}
use Rattle.desk.specs.declared.overview.OverviewReply.TheVariants as overviews
use Rattle.line_protocol.specs.Ops.{Documents.documents_fields, Documents.documents_data, Hello.hello_fields, Hello.hello_data}

-- an op by its name, and what its fields ask of the document that the request names
abbrev pub Op : Type 0
Op = List ℕ × (Data → Result Ask Field)

abbrev pub ops : List Op
ops =
    (codes "open", open_fields)
    ∷ (codes "close", close_fields)
    ∷ (codes "splice", splice_fields)
    ∷ (codes "change", change_fields)
    ∷ (codes "changes", changes_fields)
    ∷ (codes "replace", replace_fields)
    ∷ (codes "plan", plan_fields)
    ∷ (codes "text", text_fields)
    ∷ (codes "source", source_fields)
    ∷ (codes "encode", encode_fields)
    ∷ (codes "errors", errors_fields)
    ∷ (codes "diagnostics", diagnostics_fields)
    ∷ (codes "lines", lines_fields)
    ∷ (codes "position", position_fields)
    ∷ (codes "offset", offset_fields)
    ∷ (codes "place", place_fields)
    ∷ (codes "since", since_fields)
    ∷ (codes "stat", stat_fields)
    ∷ []

-- an op of the desk as a whole by its name, and what its fields ask
abbrev pub DeskOp : Type 0
DeskOp = List ℕ × (Data → Result Overview Field)

abbrev pub desk_ops : List DeskOp
desk_ops =
    (codes "documents", documents_fields)
    ∷ (codes "hello", hello_fields)
    ∷ []

-- An object that answers a request: of one that holds no text and no list the line is stored inline, of another in memory of its own.
pub data Form : Type 0 where
  Short : Data → Form
  Long : Data → Form

-- the object that answers the request with this number
abbrev pub form_of : ℕ → Reply → Form
form_of id (replies.Edited r) = Short (edited_data id r)
form_of id (replies.Change r) = Short (change_data id r)
form_of id (replies.Changes r) = Short (changes_data id r)
form_of id (replies.Closed rev) = Short (closed_data id rev)
form_of id (replies.Plan r) = Long (plan_data id r)
form_of id (replies.Text r) = Long (text_data id r)
form_of id (replies.Bytes r) = Long (bytes_data id r)
form_of id (replies.Errors r) = Long (errors_data id r)
form_of id (replies.Diagnostics r) = Long (diagnostics_data id r)
form_of id (replies.Lines r) = Long (lines_data id r)
form_of id (replies.Position r) = Short (position_data id r)
form_of id (replies.Offset r) = Short (offset_data id r)
form_of id (replies.Place r) = Short (found_place_data id r)
form_of id (replies.Since r) = Short (since_data id r)
form_of id (replies.Stat r) = Short (stat_data id r)
form_of id (replies.Refused fault) = Short (reason_data (fault_reason id fault))

abbrev pub data_in : Form → Data
data_in (Short d) = d
data_in (Long d) = d

abbrev pub reply_data : ℕ → Reply → Data
reply_data id reply = data_in (form_of id reply)

abbrev pub reply_text : ℕ → Reply → List ℕ
reply_text id reply = line_of (reply_data id reply)

abbrev pub is_inline : Form → Bool
is_inline (Short d) = true
is_inline (Long d) = false

abbrev pub is_short : Reply → Bool
is_short reply = is_inline (form_of 0 reply)

-- ---- of the desk as a whole

-- the object that answers the request with this number
abbrev pub overview_data : ℕ → OverviewReply → Data
overview_data id (overviews.Documents r) = documents_data id r
overview_data id (overviews.Hello r) = hello_data id r

abbrev pub overview_text : ℕ → Office → Overview → List ℕ
overview_text id o overview = line_of (overview_data id (overview_of o overview))
