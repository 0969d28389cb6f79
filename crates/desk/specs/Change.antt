-- Changing a range of a document's text.
use Rattle.std.specs.Prelude.{◌≡◌, ℕ, Bool, true, false, List, length, Option, Some, None, Result, Ok, Err}
use Rattle.std.specs.Str.{chars}
use Rattle.index_loader.specs.Files.{Files}
use Rattle.piece_rope.specs.declared.fault.DocFault.{DocFault}
use Rattle.piece_rope.specs.declared.fault.DocFault.TheVariants as cause
use Rattle.piece_rope.specs.{Document.Document, Document.decoded, Edits.is_kept, Edits.kept_fault, Edits.first_of, Edits.spliced_document}
use Rattle.position_map.specs.declared.change_fault.ChangeFault.{ChangeFault}
use Rattle.position_map.specs.declared.change_fault.ChangeFault.TheVariants as change
use Rattle.position_map.specs.{declared.plan.Plan.Plan, declared.position.Range.Range, declared.unit.Unit.Unit as TextUnit, Plan.planned}
use Rattle.position_map.specs.Plan.{Inserted, Encoded}
use Rattle.desk.specs.Documents.{Entry, fault_of}
use Rattle.desk.specs.{Edits.Applied, Edits.edited, Effects.Effect, Log.untouched_by, declared.change_cause.ChangeCause.ChangeCause}
use Rattle.desk.specs.declared.change_cause.ChangeCause.TheVariants as because
use Rattle.desk.specs.declared.{ops.Reply.Reply, ops.Reply.TheVariants.Change, untouched.Untouched.Untouched, fault.Fault.Fault}
use Rattle.desk.specs.declared.fault.Fault.TheVariants.{OutOfRange, SplitsCharacter, SplitsItem, NoEncoder, Unencodable, OutOfMemory}

-- the refusal for the cause that a change isn't planned
abbrev pub change_fault : ChangeFault → Fault
change_fault change.OutOfRange = OutOfRange
change_fault change.SplitsCharacter = SplitsCharacter
change_fault change.SplitsItem = SplitsItem
change_fault change.NoEncoder = NoEncoder
change_fault (change.Unencodable e) = Unencodable e.code_point e.index
change_fault change.OutOfMemory = OutOfMemory

-- the refusal of a change by itself
abbrev pub cause_fault : ChangeCause → Fault
cause_fault (because.Plan fault) = change_fault fault
cause_fault (because.Splice fault) = fault_of fault

abbrev pub unless_kept : Bool → Option DocFault
unless_kept true = None
unless_kept false = Some cause.NotKept

-- What refuses a planned splice: that the document would be too large, and then that the new text wouldn't be the old one with the range
-- replaced by the text. The bytes that it removes exist, so nothing is out of range.
abbrev pub plan_fault : Document → List ℕ → Plan → Option DocFault
plan_fault d text plan =
    first_of (kept_fault d plan.at plan.del plan.ins plan.i plan.j) (unless_kept (is_kept d plan.at plan.del plan.ins plan.i plan.j text))

-- the document that the splice of a plan leaves
abbrev pub made : Document → Plan → Applied Plan
made d plan = record { document = spliced_document d plan.at plan.del plan.ins; done = plan }

abbrev pub made_unless : Option DocFault → Applied Plan → Result (Applied Plan) ChangeCause
made_unless None x = Ok x
made_unless (Some fault) x = Err (because.Splice fault)

-- it is made unless the text isn't kept, or nothing is planned
abbrev pub carried_out : Document → List ℕ → Result Plan ChangeFault → Result (Applied Plan) ChangeCause
carried_out d text (Ok plan) = made_unless (plan_fault d text plan) (made d plan)
carried_out d text (Err fault) = Err (because.Plan fault)

-- What is left after bytes replace a range, by the splice planned for it, or why that is refused. The text, in UTF-8, must have replaced
-- the range, or the whole text if there is none.
abbrev pub substituted : TextUnit → Option Range → List ℕ → Inserted → Document → Result (Applied Plan) ChangeCause
substituted unit range text new d = carried_out d (chars text) (planned d range unit new)

-- a change of a range of the text puts in the text's bytes
abbrev pub changed : TextUnit → Option Range → List ℕ → Document → Result (Applied Plan) ChangeCause
changed unit range text d = substituted unit range text (Encoded (chars text)) d

-- a change by itself is refused by its cause alone
abbrev pub alone : {A : Type 0} → Result A ChangeCause → Result A Fault
alone (Ok x) = Ok x
alone (Err cause) = Err (cause_fault cause)

-- what its splice leaves of n bytes
abbrev pub change_leaves : Plan → ℕ → Untouched
change_leaves plan n = untouched_by plan.at plan.del (length plan.ins) n

-- the splice that was made, with the number of bytes put in, and the document after it
abbrev pub change_reply : Plan → Document → ℕ → Reply
change_reply plan d rev =
    Change (record { at = plan.at; bom = (decoded d).bom; del = plan.del; encoding = (decoded d).encoding; ins = length plan.ins; rev = rev })

abbrev pub change_effect : Files → ℕ → TextUnit → Option Range → List ℕ → Entry → Effect
change_effect indexes rev unit range text = edited indexes rev (λ d. alone (changed unit range text d)) change_leaves change_reply

-- ---- what the code answers

-- The change left this document, by this splice, or is refused; or memory ran out.
abbrev pub MakesChange : Result (Applied Plan) ChangeCause → Result Plan ChangeCause → Document → Type 0
MakesChange wanted (Ok plan) d = wanted ≡ Ok (record { document = d; done = plan })
MakesChange wanted (Err (because.Plan change.OutOfMemory)) d = Unit {0}
MakesChange wanted (Err (because.Splice cause.OutOfMemory)) d = Unit {0}
MakesChange wanted (Err fault) d = wanted ≡ Err fault
