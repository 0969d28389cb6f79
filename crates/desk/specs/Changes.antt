-- A list of changes of a document's text, each on the result of the one before (LSP 3.17, "DidChangeTextDocumentParams").
use Rattle.std.specs.Prelude.{ℕ, ◌+◌, List, [], ◌∷◌, length, Option, Result, Ok, Err}
use Rattle.index_loader.specs.Files.{Files}
use Rattle.piece_rope.specs.declared.fault.DocFault.TheVariants as splice
use Rattle.piece_rope.specs.Document.{Document, decoded}
use Rattle.position_map.specs.declared.change_fault.ChangeFault.TheVariants as plan
use Rattle.position_map.specs.declared.{plan.Plan.Plan, position.Range.Range, unit.Unit.Unit as TextUnit}
use Rattle.desk.specs.{Change.changed, Change.change_leaves, Documents.Entry}
use Rattle.desk.specs.{Edits.Applied, Edits.edited, Effects.Effect, Log.all_untouched, Log.both_untouched, declared.change_cause.ChangeCause.ChangeCause}
use Rattle.desk.specs.declared.change_cause.ChangeCause.TheVariants as because
use Rattle.desk.specs.declared.fault.Fault.{Fault}
use Rattle.desk.specs.declared.{fault.Fault.TheVariants.InChange, fault.Fault.TheVariants.OutOfMemory, ops.Reply.Reply, ops.Reply.TheVariants.Changes}
use Rattle.desk.specs.declared.{ops.changes.ContentChange.ContentChange, ops.changes.MadeChanges.MadeChanges, untouched.Untouched.Untouched}

-- a change of a list: the range, without one the whole text, and the text that is put in its place
pub record TextChange : Type 0 where
  pub range : Option Range
  pub text : List ℕ

abbrev pub change_of : ContentChange → TextChange
change_of c = record { range = c.range; text = c.text.now }

-- the refusal of a list, by the number of its first change that is refused, and the cause
abbrev pub in_change : ℕ → ChangeCause → Fault
in_change n (because.Plan plan.OutOfMemory) = OutOfMemory
in_change n (because.Splice splice.OutOfMemory) = OutOfMemory
in_change n cause = InChange n cause

-- no change was made of a document of n bytes
abbrev pub none_made : ℕ → MadeChanges
none_made n = record { count = 0; untouched = all_untouched n }

-- one more was made, of n bytes
abbrev pub one_more : MadeChanges → ℕ → Plan → MadeChanges
one_more made n plan = record { count = made.count + 1; untouched = both_untouched made.untouched (change_leaves plan n) }

-- the changes after those that were made, if the next one is made of n bytes
abbrev pub then_rest : MadeChanges → ℕ → (MadeChanges → Document → Result (Applied MadeChanges) Fault) → Result (Applied Plan) ChangeCause
    → Result (Applied MadeChanges) Fault
then_rest made n rest (Ok x) = rest (one_more made n x.done) x.document
then_rest made n rest (Err cause) = Err (in_change made.count cause)

-- What changes leave, made one after another behind those that were made, or why the first of them that can't be made is refused.
abbrev pub changed_all : TextUnit → MadeChanges → List TextChange → Document → Result (Applied MadeChanges) Fault
changed_all unit made [] d = Ok (record { document = d; done = made })
changed_all unit made (c ∷ cs) d = then_rest made (length d.bytes) (λ more. changed_all unit more cs) (changed unit c.range c.text d)

-- a whole list
abbrev pub changed_from_none : TextUnit → List TextChange → Document → Result (Applied MadeChanges) Fault
changed_from_none unit changes d = changed_all unit (none_made (length d.bytes)) changes d

abbrev pub changes_leave : MadeChanges → ℕ → Untouched
changes_leave made n = made.untouched

-- the number of changes, and the document after the last of them
abbrev pub changes_reply : MadeChanges → Document → ℕ → Reply
changes_reply made d rev = Changes (record { applied = made.count; bom = (decoded d).bom; encoding = (decoded d).encoding; rev = rev })

-- one edit, whatever their number
abbrev pub changes_effect : Files → ℕ → TextUnit → List TextChange → Entry → Effect
changes_effect indexes rev unit changes = edited indexes rev (changed_from_none unit changes) changes_leave changes_reply
