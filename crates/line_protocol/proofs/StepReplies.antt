-- How the reply to a line comes about.
use Rattle.std.proofs.Common.{◌≡◌, ℕ, ◌≤◌, true, false, nat_lt, List, length, Ok, Err, refl, sym, ap, subst, rules, ◌<◌, ◌∙◌}
use Rattle.std.proofs.lemmas.Bool.{false_from_ne_true}
use Rattle.line_protocol.proofs.Prelude.{reports_change, Asked, asked, Office, answer_of, Answers, Reply, Edited, is_short, Refused, Data, memory_text}
use Rattle.line_protocol.proofs.Prelude.{reply_text, refusal_text, json_of_line, request_of, IsJsonOfLine, ◌>>=◌, IsRequest, ran_out, line_limit, too_long_text}
use Rattle.line_protocol.proofs.Prelude.{LineStep, IsStep, taken, step_by, step_of, answered, Replies, Refusal}
use Rattle.desk.specs.declared.{ops.Command.Command, overview.Overview.Overview, fault.Fault.Fault}
use Rattle.line_protocol.specs.{Ops.overview_text, declared.request.wanted.Wanted.TheVariants.Document, declared.request.wanted.Wanted.TheVariants.Desk}

-- ---- the desk's answer

-- the desk answered, and its reply was written
desk_step : (old new : Office) (id : ℕ) (command : Asked) (reply : Reply) (text : List ℕ) → text ≡ reply_text id reply → Answers old command reply new
    → IsStep old (answered old id (answer_of old command)) text new
desk_step old new id command (Refused Fault.OutOfMemory) text e a =
    let same : record { indexes = new.indexes; labels = new.labels; documents = new.documents; turn = new.turn } ≡ old =
    rw (a.indexes, a.labels, a.step, a.turn) refl in ran_out e same
desk_step old new id command reply text e a = taken (ap (answered old id) a.step ∙ rw (e, ← a.indexes, ← a.labels, ← a.turn) refl)

-- ---- replies that need memory

-- a reply with a text or a list reports no change
long_keeps : (reply : Reply) → is_short reply ≡ false → reports_change reply ≡ false
long_keeps (Edited r) long = cc
long_keeps reply long = cc

-- the desk answered, and memory didn't suffice to write its reply
pub unwritten_reply_step : (old new : Office) (step : LineStep) (reply : Reply) (text : List ℕ) → text ≡ memory_text
    → (is_short reply ≡ true → ⊥) → (reports_change reply ≡ false → new ≡ old) → IsStep old step text new
unwritten_reply_step old new step reply text e long kept = ran_out e (kept (long_keeps reply (false_from_ne_true _ long)))

-- ---- refusals

-- a line is refused, and the desk stays
refused_step : (o : Office) (r : Refusal) (text : List ℕ) → text ≡ refusal_text r → IsStep o (step_by o (Err r)) text o
refused_step o r text e = taken (ap (λ x. let s : LineStep = record { text = x; office = o } in s) (sym e))

-- the desk answered a request, and its reply was written
pub parsed_step : (old new : Office) (d : Data) (id : ℕ) (command : Command) (reply : Reply) (text : List ℕ)
    → IsRequest d (Ok (id, Document command)) → text ≡ reply_text id reply → Answers old (asked command) reply new
    → IsStep old (step_by old (request_of d)) text new
parsed_step old new d id command reply text is e a =
    subst (λ r. IsStep old (step_by old r) text new) is (desk_step old new id (asked command) reply text e a)

-- the desk as a whole was asked, and what it has was written
pub overview_step : (o : Office) (d : Data) (id : ℕ) (overview : Overview) (text : List ℕ)
    → IsRequest d (Ok (id, Desk overview)) → text ≡ overview_text id o overview → IsStep o (step_by o (request_of d)) text o
overview_step o d id overview text is e =
    subst (λ r. IsStep o (step_by o r) text o) is (taken (ap (λ x. let s : LineStep = record { text = x; office = o } in s) (sym e)))

-- a request without a command, or whose list memory didn't suffice for
pub unparsed_step : (o : Office) (d : Data) (r : Refusal) (text : List ℕ) → IsRequest d (Err r) → text ≡ refusal_text r
    → IsStep o (step_by o (request_of d)) text o
unparsed_step o d Refusal.OutOfMemory text is e = ran_out e refl
unparsed_step o d r text is e = subst (λ s. IsStep o (step_by o s) text o) is (refused_step o r text e)

-- ---- lines

pub short_answers : (o : Office) (line text : List ℕ) (new : Office) → length line ≤ line_limit → IsStep o (step_of o line) text new → Replies o line text new
unfolding Replies
short_answers o line text new short is =
    let test : nat_lt line_limit (length line) ≡ false = search (rules, short) in
    rw test is

pub too_long_answers : (o : Office) (line text : List ℕ) → text ≡ too_long_text → line_limit < length line → Replies o line text o
unfolding Replies
too_long_answers o line text is long =
    let test : nat_lt line_limit (length line) ≡ true = search (rules, long) in
    rw test (is, refl)

pub memory_answers : (o : Office) (line text : List ℕ) → text ≡ memory_text → length line ≤ line_limit → Replies o line text o
memory_answers o line text is short = short_answers o line text o short (ran_out is refl)

-- a line whose value was read
pub read_answers : (o : Office) (line text : List ℕ) (new : Office) (d : Data) → length line ≤ line_limit → json_of_line line ≡ Ok d
    → IsStep o (step_by o (request_of d)) text new → Replies o line text new
read_answers o line text new d short e is =
    short_answers o line text new short (subst (λ r. IsStep o (step_by o r) text new) (sym (ap (λ v. v >>= request_of) e)) is)

-- a line without a value, or whose value memory didn't suffice for
pub unread_answers : (o : Office) (line text : List ℕ) (r : Refusal) → length line ≤ line_limit → IsJsonOfLine line (Err r)
    → text ≡ refusal_text r → Replies o line text o
unread_answers o line text Refusal.OutOfMemory short e is = memory_answers o line text is short
unread_answers o line text r short e is =
    short_answers o line text o short (subst (λ s. IsStep o (step_by o s) text o) (sym (ap (λ v. v >>= request_of) e)) (refused_step o r text is))
