-- What an accepted change leaves: the planned bytes, and the old text with the range replaced.
use Rattle.std.specs.Prelude.{◌≡◌, ◌≢◌, ◌<◌, ℕ, ◌+◌, true, List, [], ◌∷◌, length, Option, Some, Ok}
use Rattle.std.specs.{FinMap.get, Str.chars}
use Rattle.index_loader.specs.Files.{Files}
use Rattle.piece_rope.specs.{Document.Document, Document.text_of, Edits.replaced, Edits.spliced, Edits.spliced_document}
use Rattle.position_map.specs.{declared.plan.Plan.Plan, declared.position.Range.Range, declared.unit.Unit.Unit as TextUnit, Plan.planned}
use Rattle.position_map.specs.Plan.{Inserted, Encoded, Given}
use Rattle.desk.specs.{Accepted.is_accepted, Change.change_effect, Change.change_leaves}
use Rattle.desk.specs.{Commands.asked_of, Commands.Change, Commands.Changes, Commands.Replace, Changes.TextChange, Desk.Office, Desk.Answers}
use Rattle.desk.specs.{Documents.Entry, Documents.edited_entry, Documents.document_of, Documents.max_number, Effects.Puts, Effects.base64_bytes, Log.logged}
use Rattle.desk.specs.declared.{fault.Fault.TheVariants.OutOfMemory, ops.Reply.Reply, ops.Reply.TheVariants.Refused, untouched.Untouched.Untouched}

-- The document at the name, the splice planned for its range, and what is held afterwards. Decoded from scratch, the new bytes have the old
-- text with the code points of the range replaced.
pub record Replaces (o : Office) (doc : List ℕ) (unit : TextUnit) (range : Option Range) (text : List ℕ) (new : Inserted) (p : Office) : Type 0 where
  pub before : Entry
  pub plan : Plan
  pub after : Entry
  pub found : get o.documents doc ≡ Some before
  pub is_plan : planned (document_of o.indexes before) range unit new ≡ Ok plan
  pub held : get p.documents doc ≡ Some after
  pub leaves : after ≡ edited_entry before (spliced before.bytes plan.at plan.del plan.ins) (before.revision + 1) (change_leaves plan (length before.bytes))
  pub kept : text_of (document_of o.indexes after) ≡ replaced (text_of (document_of o.indexes before)) plan.i plan.j (chars text)

abbrev pub ChangesKeepText : Type 0
ChangesKeepText = (o p : Office) (doc : List ℕ) (rev : ℕ) (unit : TextUnit) (range : Option Range) (text : List ℕ) (reply : Reply)
    → Answers o (asked_of doc (Change rev unit range text)) reply p → is_accepted reply ≡ true → Replaces o doc unit range text (Encoded (chars text)) p

-- ---- given bytes

abbrev pub GivenBytesKeepText : Type 0
GivenBytesKeepText = (o p : Office) (doc : List ℕ) (rev : ℕ) (unit : TextUnit) (range : Option Range) (text given : List ℕ) (reply : Reply)
    → Answers o (asked_of doc (Replace rev unit range text given)) reply p → is_accepted reply ≡ true
    → (bytes : List ℕ) × (base64_bytes given ≡ Some bytes) × Replaces o doc unit range text (Given bytes) p

-- ---- a list of changes

-- A change of a list, from the document that it finds to the one that it leaves: that of the splice planned for its range. Its text,
-- decoded from scratch, is the text found with the code points of the range replaced.
pub record Rewrites (unit : TextUnit) (c : TextChange) (d e : Document) : Type 0 where
  pub plan : Plan
  pub is_plan : planned d c.range unit (Encoded (chars c.text)) ≡ Ok plan
  pub leaves : e ≡ spliced_document d plan.at plan.del plan.ins
  pub kept : text_of e ≡ replaced (text_of d) plan.i plan.j (chars c.text)

-- each on what the one before left
abbrev pub RewritesAll : TextUnit → List TextChange → Document → Document → Type 0
RewritesAll unit [] d e = e ≡ d
RewritesAll unit (c ∷ cs) d e = (mid : Document) × Rewrites unit c d mid × RewritesAll unit cs mid e

-- The document at the name, and what is held afterwards, one revision later.
pub record ReplacesAll (o : Office) (doc : List ℕ) (unit : TextUnit) (changes : List TextChange) (p : Office) : Type 0 where
  pub before : Entry
  pub after : Entry
  pub found : get o.documents doc ≡ Some before
  pub held : get p.documents doc ≡ Some after
  pub revision : after.revision ≡ before.revision + 1
  pub rewritten : RewritesAll unit changes (document_of o.indexes before) (document_of o.indexes after)

abbrev pub ListsKeepText : Type 0
ListsKeepText = (o p : Office) (doc : List ℕ) (rev : ℕ) (unit : TextUnit) (changes : List TextChange) (reply : Reply)
    → Answers o (asked_of doc (Changes rev unit changes)) reply p → is_accepted reply ≡ true → ReplacesAll o doc unit changes p

-- Each change in its turn, asked for by itself at this revision and with this log, is accepted, and puts an entry whose document the next one
-- finds.
abbrev pub EachAccepted : Files → ℕ → TextUnit → List TextChange → Entry → Entry → Type 0
EachAccepted indexes rev unit [] h last = last ≡ h
EachAccepted indexes rev unit (c ∷ cs) h last =
    (reply : Reply) × (k : Entry) × (change_effect indexes rev unit c.range c.text h ≡ record { reply = reply; move = Puts k })
    × EachAccepted indexes rev unit cs (record k { revision = rev; log = h.log }) last

-- A list that names the current revision, if this can be raised, is accepted exactly if each change is, in turn. Then it leaves what
-- they leave, one revision later, and is one edit of the log.
abbrev pub ListsAreTheirChanges : Type 0
ListsAreTheirChanges = (o p : Office) (doc : List ℕ) (unit : TextUnit) (changes : List TextChange) (reply : Reply) (before : Entry)
    → get o.documents doc ≡ Some before → before.revision < max_number
    → Answers o (asked_of doc (Changes before.revision unit changes)) reply p → reply ≢ Refused OutOfMemory
    → (is_accepted reply ≡ true → (last : Entry) × (u : Untouched) × EachAccepted o.indexes before.revision unit changes before last
    × (get p.documents doc ≡ Some (record last { revision = before.revision + 1; log = logged before.log u })))
    × ((last : Entry) → EachAccepted o.indexes before.revision unit changes before last → is_accepted reply ≡ true)
