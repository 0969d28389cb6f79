-- What becomes of a change that is asked for when its plan was.
use Rattle.std.proofs.Common.{◌≡◌, ◌≢◌, ℕ, ◌<◌, Bool, true, false, List, length, take, drop, refl, sym, ap, ◌∙◌, subst, arith, Ok}
use Rattle.desk.specs.Commands as commands
use Rattle.desk.proofs.Prelude.{Some, None, Err, Option, Result, chars, length-drop, length-take-le, nat_tests, get, Files, Document, first_of, kept_fault}
use Rattle.desk.proofs.Prelude.{splice_fault, DocFault, Encoded, planned, ChangeFault, Plan, Range, TextUnit, is_accepted, unless_kept, made, made_unless}
use Rattle.desk.proofs.Prelude.{changed, alone, change_reply, change_effect, asked_of, question_of, Office, Answers, effect_of, Entry, reply_of, change_leaves}
use Rattle.desk.proofs.Prelude.{document_of, max_number, unless, Applied, put_applied, raised, Effect, of_document, replied, ChangeCause, Fault, OutOfMemory}
use Rattle.desk.proofs.Prelude.{NotKept, Reply, Refused, carried_out}
use Rattle.desk.specs.Plan.{foretold, with_plan, plan_reply}
use Rattle.desk.specs.{AsPlanned.IsMadeAsPlanned, AsPlanned.PlansForetellChanges, AsPlanned.RefusedPlansRefuseChanges, declared.ops.plan.PlanReply.PlanReply}
use Rattle.desk.proofs.{Begins.held_here, Edits.revision_named, Moves.held_after, Moves.reply_is, Rows.kept_office}

-- ---- the splice behind a reply

record IsForetold (indexes : Files) (unit : TextUnit) (range : Option Range) (text : List ℕ) (h : Entry) (told : PlanReply) : Type 0 where
  plan : Plan
  is_plan : planned (document_of indexes h) range unit (Encoded (chars text)) ≡ Ok plan
  faultless : kept_fault (document_of indexes h) plan.at plan.del plan.ins plan.i plan.j ≡ None
  is_told : foretold (document_of indexes h) h.revision (chars text) plan ≡ told

told-unless : (fault : Option DocFault) (x told : PlanReply) → reply_of (unless fault (Reply.Plan x)) ≡ Reply.Plan told → (fault ≡ None) × (x ≡ told)
told-unless fault x told e = (grind arith, grind arith)

module _ (indexes : Files) (unit : TextUnit) (range : Option Range) (text : List ℕ) where
  told-by : (h : Entry) (told : PlanReply) (r : Result Plan ChangeFault) → planned (document_of indexes h) range unit (Encoded (chars text)) ≡ r
      → reply_of (with_plan (document_of indexes h) h.revision (chars text) r) ≡ Reply.Plan told → IsForetold indexes unit range text h told
  told-by h told (Ok plan) is e =
      let d = document_of indexes h in
      let by = told-unless (kept_fault d plan.at plan.del plan.ins plan.i plan.j) (foretold d h.revision (chars text) plan) told e in
      record { plan = plan; is_plan = is; faultless = by.0; is_told = by.1 }
  told-by h told (Err fault) is e = cc

  found-by : (found : Option Entry) (told : PlanReply) → (of_document found (λ h. replied (plan_reply indexes h unit range text))).reply ≡ Reply.Plan told
      → (h : Entry) × (found ≡ Some h) × IsForetold indexes unit range text h told
  found-by None told e = cc
  found-by (Some h) told e = (h, refl, told-by h told (planned (document_of indexes h) range unit (Encoded (chars text))) refl e)

-- ---- a change that is planned

-- as many bytes are told as go out
told-length : (d : Document) (plan : Plan) → kept_fault d plan.at plan.del plan.ins plan.i plan.j ≡ None
    → length (take plan.del (drop plan.at d.bytes)) ≡ plan.del
unfolding splice_fault
told-length d plan e = length-take-le plan.del (drop plan.at d.bytes) (grind (arith, nat_tests, length-drop {A = ℕ}))

-- the change at a name, once its plan is known
module _ (o p : Office) (doc : List ℕ) (unit : TextUnit) (range : Option Range) (text : List ℕ) (h : Entry)
    (found : get o.documents doc ≡ Some h) (lt : h.revision < max_number)
    (reply : Reply) (answers : Answers o (asked_of doc (commands.Change h.revision unit range text)) reply p) (ne : reply ≢ Refused OutOfMemory) where
  abbrev Here : Document
  Here = document_of o.indexes h

  effect-by : (r : Result (Applied Plan) ChangeCause) → changed unit range text Here ≡ r
      → effect_of o (asked_of doc (commands.Change h.revision unit range text)) ≡ put_applied h change_leaves change_reply (alone r)
  effect-by r e =
      ap (λ f. of_document f (change_effect o.indexes h.revision unit range text)) found
      ∙ ap (put_applied h change_leaves change_reply) (revision_named h h.revision (alone (changed unit range text Here)) refl lt ∙ ap alone e)

  says-by : (r : Result (Applied Plan) ChangeCause) → changed unit range text Here ≡ r → reply ≡ (put_applied h change_leaves change_reply (alone r)).reply
  says-by r e = sym (reply_is o p (asked_of doc (commands.Change h.revision unit range text)) reply answers ne) ∙ ap (λ (t : Effect). t.reply) (effect-by r e)

  as-planned : (plan : Plan) → kept_fault Here plan.at plan.del plan.ins plan.i plan.j ≡ None → changed unit range text Here ≡ Ok (made Here plan)
      → IsMadeAsPlanned o doc (foretold Here h.revision (chars text) plan) reply p
  as-planned plan faultless e =
      let c = asked_of doc (commands.Change h.revision unit range text) in
      let says = says-by (Ok (made Here plan)) e in
      let count = told-length Here plan faultless in
      record {
        before = h;
        after = raised h (made Here plan).document (change_leaves plan (length h.bytes));
        found = found;
        old = rw count refl;
        leaves = rw count refl;
        held = held_here o p c reply answers (ap is_accepted says)
            ∙ ap (λ (t : Effect). held_after (get o.documents doc) t.move) (effect-by (Ok (made Here plan)) e);
        says = rw count says;
      }

  by-plan : (told : PlanReply) (is : IsForetold o.indexes unit range text h told) (b : Bool) → told.kept ≡ b
      → changed unit range text Here ≡ made_unless (unless_kept b) (made Here is.plan)
  by-plan told is b e = rw (is.is_plan, is.faultless, ap (λ (x : PlanReply). x.kept) is.is_told ∙ e) refl

  foretells : (told : PlanReply) → IsForetold o.indexes unit range text h told → (told.kept ≡ true → IsMadeAsPlanned o doc told reply p)
      × (told.kept ≡ false → reply ≡ Refused NotKept)
  foretells told is = (
    λ e. subst (λ (x : PlanReply). IsMadeAsPlanned o doc x reply p) is.is_told (as-planned is.plan is.faultless (by-plan told is true e)),
    λ e. says-by _ (by-plan told is false e),
  )

pub plans_foretell_changes : PlansForetellChanges
plans_foretell_changes o q p doc unit range text told reply asked lt answers ne =
    let c = question_of doc (commands.Plan unit range text) in
    let same : q ≡ o = kept_office o q c (Reply.Plan told) asked refl in
    let by = found-by o.indexes unit range text (get o.documents doc) told (reply_is o q c (Reply.Plan told) asked (λ e. cc)) in
    let rev : told.rev ≡ by.0.revision = sym (ap (λ (x : PlanReply). x.rev) by.2.is_told) in
    rw same (foretells o p doc unit range text by.0 by.1 (omega (arith, lt, rev)) reply (rw (same, rev) at answers) ne told by.2)

-- ---- a plan that is refused

refused-unless : (d : Document) (plan : Plan) (cut other : Option DocFault) (x : PlanReply) (fault : Fault)
    → reply_of (unless cut (Reply.Plan x)) ≡ Refused fault → alone (made_unless (first_of cut other) (made d plan)) ≡ Err fault
refused-unless d plan cut other x fault e = grind arith

refused-plan : (d : Document) (rev : ℕ) (text : List ℕ) (r : Result Plan ChangeFault) (fault : Fault) → reply_of (with_plan d rev text r) ≡ Refused fault
    → alone (carried_out d text r) ≡ Err fault
refused-plan d rev text (Ok plan) fault e = refused-unless d plan (kept_fault d plan.at plan.del plan.ins plan.i plan.j) _ (foretold d rev text plan) fault e
refused-plan d rev text (Err f) fault e = cc

pub refused_plans_refuse_changes : RefusedPlansRefuseChanges
refused_plans_refuse_changes o q p doc unit range text fault h reply asked other found lt answers ne =
    let c = question_of doc (commands.Plan unit range text) in
    let d = document_of o.indexes h in
    let same : q ≡ o = kept_office o q c (Refused fault) asked refl in
    let is = rw found at (reply_is o q c (Refused fault) asked (λ e. let no : fault ≡ OutOfMemory = cc in other no)) in
    says-by o p doc unit range text h found lt reply (rw same at answers) ne _ refl
    ∙ ap (λ x. (put_applied h change_leaves change_reply x).reply)
    (refused-plan d h.revision (chars text) (planned d range unit (Encoded (chars text))) fault is)
