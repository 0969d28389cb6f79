-- What becomes of a change that is asked for when its plan was.
use Rattle.std.specs.Prelude.{◌≡◌, ◌≢◌, ◌<◌, ℕ, ◌+◌, true, false, List, length, take, drop, Option, Some}
use Rattle.std.specs.FinMap.{get}
use Rattle.piece_rope.specs.{Document.decoded, Edits.spliced}
use Rattle.position_map.specs.declared.{position.Range.Range, unit.Unit.Unit as TextUnit}
use Rattle.desk.specs.{Commands.asked_of, Commands.question_of, Commands.Plan, Commands.Change, Desk.Office, Desk.Answers}
use Rattle.desk.specs.{Documents.Entry, Documents.edited_entry, Documents.document_of, Documents.max_number, Log.untouched_by, declared.fault.Fault.Fault}
use Rattle.desk.specs.declared.{fault.Fault.TheVariants.NotKept, fault.Fault.TheVariants.OutOfMemory, ops.plan.PlanReply.PlanReply, ops.Reply.Reply}
use Rattle.desk.specs.declared.ops.Reply.TheVariants as replies

-- The bytes that the plan names are taken out and put in, at the next revision, and the reply says so.
pub record IsMadeAsPlanned (o : Office) (doc : List ℕ) (plan : PlanReply) (reply : Reply) (p : Office) : Type 0 where
  pub before : Entry
  pub after : Entry
  pub found : get o.documents doc ≡ Some before
  pub old : plan.old ≡ take (length plan.old) (drop plan.at before.bytes)
  pub leaves : after ≡ edited_entry before (spliced before.bytes plan.at (length plan.old) plan.bytes) (plan.rev + 1)
      (untouched_by plan.at (length plan.old) (length plan.bytes) (length before.bytes))
  pub held : get p.documents doc ≡ Some after
  pub says : let d = document_of o.indexes after in
      reply ≡ replies.Change (record {
        at = plan.at;
        bom = (decoded d).bom;
        del = length plan.old;
        encoding = (decoded d).encoding;
        ins = length plan.bytes;
        rev = plan.rev + 1;
      })

-- If a plan is answered, and its revision can be raised, the change that names this revision is made as planned if the plan says so.
-- Otherwise it is refused with NotKept.
abbrev pub PlansForetellChanges : Type 0
PlansForetellChanges = (o q p : Office) (doc : List ℕ) (unit : TextUnit) (range : Option Range) (text : List ℕ) (plan : PlanReply) (reply : Reply)
    → Answers o (question_of doc (Plan unit range text)) (replies.Plan plan) q → plan.rev < max_number
    → Answers q (asked_of doc (Change plan.rev unit range text)) reply p → reply ≢ replies.Refused OutOfMemory
    → (plan.kept ≡ true → IsMadeAsPlanned q doc plan reply p) × (plan.kept ≡ false → reply ≡ replies.Refused NotKept)

-- Where a plan is refused, so is the change that names the revision now, with the same refusal.
abbrev pub RefusedPlansRefuseChanges : Type 0
RefusedPlansRefuseChanges = (o q p : Office) (doc : List ℕ) (unit : TextUnit) (range : Option Range) (text : List ℕ) (fault : Fault)
    (before : Entry) (reply : Reply)
    → Answers o (question_of doc (Plan unit range text)) (replies.Refused fault) q → fault ≢ OutOfMemory → get o.documents doc ≡ Some before
    → before.revision < max_number → Answers q (asked_of doc (Change before.revision unit range text)) reply p → reply ≢ replies.Refused OutOfMemory
    → reply ≡ replies.Refused fault
