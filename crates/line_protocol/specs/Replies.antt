-- The text of a reply: one line, an object of JSON with no space and its keys in ascending order.
use Rattle.std.specs.Prelude.{ℕ, Bool, List, [], ◌∷◌, ◌++◌, codes, Option, Some, None, if◌then◌else◌}
use Rattle.std.specs.{Cmp.Lexicographic.slice_cmp, Ordering.nat_cmp, Ordering.is_lt}
use Rattle.serde_json.specs.{Data.Data, Data.string, Data.object, Data.Members, Data.no_members, Data.member, Written.compact_text}
use Rattle.desk.specs.{Change.cause_fault, declared.fault.Fault.Fault}
use Rattle.desk.specs.declared.fault.Fault.TheVariants.{BadBase64, NoDocument, NameTaken, UnknownLabel, NoIndex, TooManyDocuments, Stale, RevisionsSpent}
use Rattle.desk.specs.declared.fault.Fault.TheVariants.{OutOfRange, Forgotten, SplitsCharacter, SplitsItem, NoEncoder, Unencodable, TooLarge, NotKept, InChange}
use Rattle.desk.specs.declared.fault.Fault.TheVariants.{Malformed, OutOfMemory}
use Rattle.line_protocol.specs.declared.request.{field.Field.Field, refusal.Refusal.Refusal}
use Rattle.line_protocol.specs.declared.request.field.Field.TheVariants as field
use Rattle.line_protocol.specs.declared.request.refusal.Refusal.TheVariants as refusal
use Rattle.line_protocol.specs.Values.{whole, place_data}

-- ---- names

abbrev pub field_name : Field → List ℕ
field_name field.Object = []
field_name field.Id = codes "id"
field_name field.Op = codes "op"
field_name field.Doc = codes "doc"
field_name field.Label = codes "label"
field_name field.Bytes = codes "bytes"
field_name field.Bom = codes "bom"
field_name field.Rev = codes "rev"
field_name field.At = codes "at"
field_name field.Del = codes "del"
field_name field.Len = codes "len"
field_name field.From = codes "from"
field_name field.To = codes "to"
field_name field.Mode = codes "mode"
field_name field.Max = codes "max"
field_name field.Offset = codes "offset"
field_name field.Line = codes "line"
field_name field.Character = codes "character"
field_name field.Unit = codes "unit"
field_name field.Value = codes "value"
field_name field.Range = codes "range"
field_name field.Text = codes "text"
field_name field.Changes = codes "changes"

-- ---- refusals

-- one key precedes another in the order of their bytes
abbrev pub key_before : List ℕ → List ℕ → Bool
key_before k l = is_lt (slice_cmp nat_cmp k l)

-- the members of two objects as those of one, each in the order of the keys
abbrev pub merged : Members → Members → Members
merged no_members ys = ys
merged (member k x xs) no_members = member k x xs
merged (member k x xs) (member l y ys) =
    if key_before k l then member k x (merged xs (member l y ys)) else member l y (merged (member k x xs) ys)

-- why something is refused, as its line reports it: a name, and the number of the request if the line has it. It has the number of the
-- change if that is in a list, and further members
pub record Reason : Type 0 where
  pub name : List ℕ
  pub id : Option ℕ
  pub change : Option ℕ
  pub more : Members

abbrev pub reason : List ℕ → Option ℕ → Members → Reason
reason name id more = record { name = name; id = id; change = None; more = more }

-- why a change of a list is refused, by its number from 0 and why it would be refused alone
abbrev pub in_change : ℕ → Reason → Reason
in_change change r = record { name = r.name; id = r.id; change = Some change; more = r.more }

-- a further member, which is a whole number
abbrev pub with_number : List ℕ → ℕ → Members → Members
with_number key n more = member key (whole n) more

-- That memory ran out is reported without a number.
abbrev pub memory_reason : Reason
memory_reason = reason (codes "OutOfMemory") None no_members

-- why the desk refuses the request with this number, except a change of a list
abbrev pub plain_reason : ℕ → Fault → Reason
plain_reason id BadBase64 = reason (codes "BadBase64") (Some id) no_members
plain_reason id NoDocument = reason (codes "NoDocument") (Some id) no_members
plain_reason id NameTaken = reason (codes "NameTaken") (Some id) no_members
plain_reason id UnknownLabel = reason (codes "UnknownLabel") (Some id) no_members
plain_reason id NoIndex = reason (codes "NoIndex") (Some id) no_members
plain_reason id TooManyDocuments = reason (codes "TooManyDocuments") (Some id) no_members
plain_reason id (Stale rev) = reason (codes "Stale") (Some id) (with_number (codes "rev") rev no_members)
plain_reason id RevisionsSpent = reason (codes "RevisionsSpent") (Some id) no_members
plain_reason id OutOfRange = reason (codes "OutOfRange") (Some id) no_members
plain_reason id (Forgotten rev) = reason (codes "Forgotten") (Some id) (with_number (codes "rev") rev no_members)
plain_reason id SplitsCharacter = reason (codes "SplitsCharacter") (Some id) no_members
plain_reason id SplitsItem = reason (codes "SplitsItem") (Some id) no_members
plain_reason id NoEncoder = reason (codes "NoEncoder") (Some id) no_members
plain_reason id (Unencodable code_point index) =
    reason (codes "Unencodable") (Some id) (with_number (codes "code_point") code_point (with_number (codes "index") index no_members))
plain_reason id TooLarge = reason (codes "TooLarge") (Some id) no_members
plain_reason id NotKept = reason (codes "NotKept") (Some id) no_members
plain_reason id (Malformed place) = reason (codes "Malformed") (Some id) (member (codes "place") (place_data place) no_members)
plain_reason id (InChange change cause) = reason (codes "InChange") (Some id) no_members
plain_reason id OutOfMemory = memory_reason

-- why the desk refuses the request with this number
abbrev pub fault_reason : ℕ → Fault → Reason
fault_reason id (InChange change cause) = in_change change (plain_reason id (cause_fault cause))
fault_reason id fault = plain_reason id fault

-- why a line is refused before the desk sees it
abbrev pub refusal_reason : Refusal → Reason
refusal_reason refusal.LineTooLong = reason (codes "LineTooLong") None no_members
refusal_reason refusal.BadJson = reason (codes "BadJson") None no_members
refusal_reason (refusal.BadRequest id f) = reason (codes "BadRequest") id (member (codes "field") (string (field_name f)) no_members)
refusal_reason (refusal.UnknownOp id) = reason (codes "UnknownOp") (Some id) no_members
refusal_reason refusal.OutOfMemory = memory_reason

-- the number of the request, where the line has it
abbrev pub id_members : Option ℕ → Members
id_members None = no_members
id_members (Some id) = member (codes "id") (whole id) no_members

-- the number of the change, where the line has it
abbrev pub change_members : Option ℕ → Members → Members
change_members None more = more
change_members (Some change) more = member (codes "change") (whole change) more

-- the object that says why
abbrev pub reason_data : Reason → Data
reason_data r = object (merged (change_members r.change (member (codes "fault") (string r.name) (id_members r.id))) r.more)

-- ---- text

-- an object on a line of its own
abbrev pub line_of : Data → List ℕ
line_of d = compact_text d ++ 10 ∷ []

abbrev pub refusal_text : Refusal → List ℕ
refusal_text r = line_of (reason_data (refusal_reason r))

abbrev pub memory_text : List ℕ
memory_text = line_of (reason_data memory_reason)
