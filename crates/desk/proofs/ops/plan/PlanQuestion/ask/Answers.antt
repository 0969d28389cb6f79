use Rattle.std.proofs.Common.{◌≡◌, ℕ, ◌+◌, ◌≤◌, nat_le, Bool, true, List, length, take, drop, refl, sym, ap, ◌∙◌, None, Ok, Err, chars}
use Rattle.std.proofs.lemmas.Result.{err_from_is_err_and}
use Rattle.desk.proofs.Prelude.{Result, le-leb, is_kept, kept_fault, named, source_fault, DocFault, IsPlanned, Encoded, planned}
use Rattle.desk.proofs.Prelude.{ChangeFault, Plan, change_fault, Gives, document_of, fault_of, entry_of, Fault, OpenDocument, Reply}
use Rattle.desk.{specs.Plan.with_plan, specs.Plan.plan_reply, specs.declared.ops.plan.Plan.Plan as Asked, proofs.Change.planned-as}
use Rattle.desk.proofs.ops.plan.PlanQuestion.ask.Goals as goal

-- what is asked of an open document, and what the parts of its reply are
module _ (k : OpenDocument) (q : Asked) where
  abbrev Text : List ℕ
  Text = chars q.text.now

  abbrev Answer : Result Reply Fault
  Answer = plan_reply k.document.indexes (entry_of k) q.unit q.range q.text.now

  by-plan : (r : Result Plan ChangeFault) → planned k.document q.range q.unit (Encoded Text) ≡ r
      → Answer ≡ with_plan (document_of k.document.indexes (entry_of k)) k.revision Text r
  by-plan r e = ap (with_plan (document_of k.document.indexes (entry_of k)) k.revision Text) (sym (planned-as k.document q.range q.unit (Encoded Text)) ∙ e)

  unplanned : (fault : ChangeFault) → IsPlanned (planned k.document q.range q.unit (Encoded Text)) (Err fault) → Gives Answer (Err (change_fault fault))
  unplanned ChangeFault.OutOfMemory is = tt
  unplanned fault is = by-plan (Err fault) is

  too-large : (plan : Plan) (fault : DocFault) → planned k.document q.range q.unit (Encoded Text) ≡ Ok plan
      → kept_fault k.document plan.at plan.del plan.ins plan.i plan.j ≡ named fault → Gives Answer (Err (fault_of fault))
  too-large plan DocFault.OutOfMemory e is = tt
  too-large plan fault e is = by-plan (Ok plan) e ∙ rw is refl

  -- the bytes that would be removed exist, and so only memory can be lacking
  unread : (at del : ℕ) (fault : DocFault) → at + del ≤ length k.document.bytes → source_fault k.document.bytes at del ≡ named fault
      → Gives Answer (Err (fault_of fault))
  unfolding source_fault
  unread at del DocFault.OutOfMemory within is = tt
  unread at del fault within is =
      let there : nat_le (at + del) (length k.document.bytes) ≡ true = le-leb (at + del) (length k.document.bytes) within in
      let none = rw there at is in
      cc

  is-foretold : (plan : Plan) (kept : Bool) (old : List ℕ) → planned k.document q.range q.unit (Encoded Text) ≡ Ok plan
      → kept_fault k.document plan.at plan.del plan.ins plan.i plan.j ≡ None → kept ≡ is_kept k.document plan.at plan.del plan.ins plan.i plan.j Text
      → old ≡ take plan.del (drop plan.at k.document.bytes)
      → Answer ≡ Ok (Reply.Plan (record { at = plan.at; bytes = plan.ins; kept = kept; old = old; rev = k.revision }))
  is-foretold plan kept old e none is bytes = by-plan (Ok plan) e ∙ rw (none, is, bytes) refl

pub returns-in_err-plan : goal.returns-in_err-plan
returns-in_err-plan c =
    let e = err_from_is_err_and c.from_residual.result c.from_residual.ensures.1 in
    rw (e.1, e.2) (unplanned c.args.opened.now c.args.self.now c.in_err-plan.field-0.0 c.in_err-plan.ensures.plan)

pub returns-in_err-kept : goal.returns-in_err-kept
returns-in_err-kept c =
    let e = err_from_is_err_and c.from_residual-in_err-kept.result c.from_residual-in_err-kept.ensures.1 in
    let faults = rw c.as_slice-ins.ensures at c.in_err-kept.ensures.faults in
    rw (e.1, e.2) (too-large c.args.opened.now c.args.self.now c.in_ok-plan.plan c.in_err-kept.field-0.0 c.in_ok-plan.ensures.plan faults)

pub returns-in_err-old : goal.returns-in_err-old
returns-in_err-old c =
    let e = err_from_is_err_and c.from_residual-in_err-old.result c.from_residual-in_err-old.ensures.1 in
    rw (e.1, e.2)
    (unread c.args.opened.now c.args.self.now c.in_ok-plan.plan.at c.in_ok-plan.plan.del c.in_err-old.field-0.0
    c.in_ok-plan.ensures.fits.bytes c.in_err-old.ensures.faults)

pub returns : goal.returns
returns c =
    let kept = rw c.as_slice-ins.ensures at c.in_ok-kept.ensures.kept in
    let faults = rw c.as_slice-ins.ensures at c.in_ok-kept.ensures.faults in
    is-foretold c.args.opened.now c.args.self.now c.in_ok-plan.plan c.in_ok-kept.kept c.new.result c.in_ok-plan.ensures.plan faults kept
    (c.new.ensures ∙ c.in_ok-old.ensures.ok)
