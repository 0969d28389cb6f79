-- What a change of a range would do.
use Rattle.std.specs.Prelude.{ℕ, List, take, drop, Option, Result, Ok, Err}
use Rattle.std.specs.Str.{chars}
use Rattle.index_loader.specs.Files.{Files}
use Rattle.piece_rope.specs.{Document.Document, Edits.is_kept, Edits.kept_fault}
use Rattle.position_map.specs.declared.change_fault.ChangeFault.{ChangeFault}
use Rattle.position_map.specs.{declared.plan.Plan.Plan, declared.position.Range.Range, declared.unit.Unit.Unit as TextUnit, Plan.planned, Plan.Encoded}
use Rattle.desk.specs.{Change.change_fault, Documents.Entry, Documents.document_of, Documents.unless}
use Rattle.desk.specs.declared.{fault.Fault.Fault, ops.plan.PlanReply.PlanReply, ops.Reply.Reply}
use Rattle.desk.specs.declared.ops.Reply.TheVariants as replies

-- the bytes that would go out and in, and whether the text would be kept
abbrev pub foretold : Document → ℕ → List ℕ → Plan → PlanReply
foretold d rev text plan = record {
  at = plan.at;
  bytes = plan.ins;
  kept = is_kept d plan.at plan.del plan.ins plan.i plan.j text;
  old = take plan.del (drop plan.at d.bytes);
  rev = rev;
}

-- the reply with a plan, unless the document would be too large or nothing is planned
abbrev pub with_plan : Document → ℕ → List ℕ → Result Plan ChangeFault → Result Reply Fault
with_plan d rev text (Ok plan) = unless (kept_fault d plan.at plan.del plan.ins plan.i plan.j) (replies.Plan (foretold d rev text plan))
with_plan d rev text (Err fault) = Err (change_fault fault)

-- the splice planned for a change of a range by a text, in UTF-8, and without a range for one of the whole text
abbrev pub plan_reply : Files → Entry → TextUnit → Option Range → List ℕ → Result Reply Fault
plan_reply indexes h unit range text =
    let d = document_of indexes h in
    with_plan d h.revision (chars text) (planned d range unit (Encoded (chars text)))
