-- The documents of the desk, and what its ops have in common.
use Rattle.std.specs.Prelude.{◌≡◌, ℕ, ◌^◌, ◌-◌, List, [], Option, Some, None, Result, Ok, Err}
use Rattle.std.specs.{Ordering.nat_cmp, Cmp.Lexicographic.slice_cmp, FinMap.FinMap}
use Rattle.enc_names.specs.declared.setting.Setting.{Setting}
use Rattle.index_loader.specs.Files.{Files}
use Rattle.piece_rope.specs.declared.fault.DocFault.{DocFault}
use Rattle.piece_rope.specs.declared.fault.DocFault.TheVariants as cause
use Rattle.piece_rope.specs.Document.{Document, decoded, document}
use Rattle.position_map.specs.declared.fault.PosFault.{PosFault}
use Rattle.position_map.specs.declared.fault.PosFault.TheVariants as position
use Rattle.desk.specs.{Log.logged, declared.fault.Fault.Fault}
use Rattle.desk.specs.declared.fault.Fault.TheVariants.{NoIndex, OutOfRange, SplitsCharacter, TooLarge, NotKept, OutOfMemory}
use Rattle.desk.specs.declared.{ops.Reply.Reply, ops.Reply.TheVariants.Edited, ops.Reply.TheVariants.Refused, untouched.Untouched.Untouched}

-- what is held at a name: nothing derived, and what each of the last edits left unchanged
pub record Entry : Type 0 where
  pub setting : Setting
  pub bytes : List ℕ
  pub revision : ℕ
  pub log : List Untouched

-- without an edit
abbrev pub entry : Setting → List ℕ → ℕ → Entry
entry setting bytes revision = record { setting = setting; bytes = bytes; revision = revision; log = [] }

-- with the bytes of an edit, at this revision
abbrev pub edited_entry : Entry → List ℕ → ℕ → Untouched → Entry
edited_entry h bytes revision u = record h { bytes = bytes; revision = revision; log = logged h.log u }

-- names, as UTF-8 bytes, with what is held at them
abbrev pub Names : Type 0
Names = FinMap (slice_cmp nat_cmp) Entry

-- the greatest number of a line, and so the greatest revision (RFC 8259, section 6)
abbrev pub max_number : ℕ
max_number = 2 ^ 53 - 1

-- what is held, decoded by the loaded index files
abbrev pub document_of : Files → Entry → Document
document_of indexes h = document indexes h.setting h.bytes

-- the refusal for a document's fault
abbrev pub fault_of : DocFault → Fault
fault_of cause.NoIndex = NoIndex
fault_of cause.OutOfRange = OutOfRange
fault_of cause.TooLarge = TooLarge
fault_of cause.NotKept = NotKept
fault_of cause.OutOfMemory = OutOfMemory

-- an answer, unless there is a fault
abbrev pub unless_fault : {A : Type 0} → Option DocFault → Result A Fault → Result A Fault
unless_fault None answer = answer
unless_fault (Some fault) answer = Err (fault_of fault)

-- the value, unless there is a fault
abbrev pub unless : {A : Type 0} → Option DocFault → A → Result A Fault
unless fault x = unless_fault fault (Ok x)

-- the refusal for the fault of a position, an offset or a place
abbrev pub position_fault : PosFault → Fault
position_fault position.OutOfRange = OutOfRange
position_fault position.SplitsCharacter = SplitsCharacter

-- the reply with what was sought, unless it has a fault
abbrev pub unless_position_fault : {A : Type 0} → (A → Reply) → Result A PosFault → Result Reply Fault
unless_position_fault reply (Ok x) = Ok (reply x)
unless_position_fault reply (Err fault) = Err (position_fault fault)

-- the reply to an open or a splice that left this document, at this revision
abbrev pub edited_reply : Document → ℕ → Reply
edited_reply d rev = Edited (record { bom = (decoded d).bom; encoding = (decoded d).encoding; rev = rev })

-- the reply to an open that left this entry
abbrev pub edit_reply : Files → Entry → Reply
edit_reply indexes h = edited_reply (document_of indexes h) h.revision

-- ---- what the code answers

-- The answer is the one defined; or memory ran out.
abbrev pub Gives : {A : Type 0} → Result A Fault → Result A Fault → Type 0
Gives defined (Err OutOfMemory) = Unit {0}
Gives defined answer = defined ≡ answer

-- a refusal as a reply
abbrev pub reply_of : Result Reply Fault → Reply
reply_of (Ok reply) = reply
reply_of (Err fault) = Refused fault
