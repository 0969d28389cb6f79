-- What the text that reports that memory ran out says of the desk.
use Rattle.std.proofs.Common.{◌≡◌, ℕ, Bool, true, false, nat_lt, List, length, Result, Ok, Err, MatchBool, refl, sym, ap, ◌∙◌, bytes_eq}
use Rattle.line_protocol.proofs.Prelude.{reports_change, OnlyChangesChange, Office, answer_of, Reply, Edited, Change, Changes, Closed}
use Rattle.line_protocol.proofs.Prelude.{escape_byte, memory_text, reply_text, request_of_line, ran_out, line_limit, too_long_text, LineStep, IsStep}
use Rattle.line_protocol.proofs.Prelude.{taken, step_by, step_of, step_on, answered, Replies, Refusal, Request, AtDocument, OfDesk, turn_after}

memory_same : bytes_eq memory_text memory_text ≡ true
unfolding escape_byte
memory_same = refl

differs : (text : List ℕ) → bytes_eq text memory_text ≡ false → text ≡ memory_text → ⊥
differs text apart e = let no : true ≡ false = sym memory_same ∙ ap (λ t. bytes_eq t memory_text) (sym e) ∙ apart in cc

-- an open, an edit or a close that is accepted has another text
changes_nothing : (id : ℕ) (reply : Reply) → reply_text id reply ≡ memory_text → reports_change reply ≡ false
unfolding escape_byte
changes_nothing id (Edited r) e = absurd (differs (reply_text id (Edited r)) refl e)
changes_nothing id (Change r) e = absurd (differs (reply_text id (Change r)) refl e)
changes_nothing id (Changes r) e = absurd (differs (reply_text id (Changes r)) refl e)
changes_nothing id (Closed rev) e = absurd (differs (reply_text id (Closed rev)) refl e)
changes_nothing id reply e = refl

module _ (only : OnlyChangesChange) (old new : Office) where
  by_wanted : (id : ℕ) (r : Request) → step_on old id r ≡ record { text = memory_text; office = new } → new ≡ old
  by_wanted id (OfDesk overview) e = sym (ap (λ (s : LineStep). s.office) e)
  by_wanted id (AtDocument asked) e =
      let outcome = answer_of old asked in
      let none = changes_nothing id outcome.reply (ap (λ (s : LineStep). s.text) e) in
      let counted : turn_after old.turn outcome.reply ≡ old.turn = rw none refl in
      let same : (answered old id outcome).office ≡ old = rw (only old asked none, counted) refl in
      sym (ap (λ (s : LineStep). s.office) e) ∙ same

  by_request : (r : Result (ℕ × Request) Refusal) → step_by old r ≡ record { text = memory_text; office = new } → new ≡ old
  by_request (Err refusal) e = sym (ap (λ (s : LineStep). s.office) e)
  by_request (Ok request) e = by_wanted request.0 request.1 e

  by_limit : (t : Bool) (line : List ℕ) → MatchBool t ((memory_text ≡ too_long_text) × (new ≡ old)) (IsStep old (step_of old line) memory_text new) → new ≡ old
  by_limit true line (text, same) = same
  by_limit false line (taken e) = by_request (request_of_line line) e
  by_limit false line (ran_out text same) = same

  pub out_of_memory_changes_nothing : (line : List ℕ) → Replies old line memory_text new → new ≡ old
  unfolding Replies
  out_of_memory_changes_nothing line is = by_limit (nat_lt line_limit (length line)) line is
