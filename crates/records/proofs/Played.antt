-- Playing a record again.
use Rattle.std.proofs.Common.{◌≡◌, ◌≢◌, ℕ, Bool, true, false, nat_lt, List, [], ◌∷◌, ◌++◌, length, take, MatchBool, refl, sym, ap, ◌∙◌, subst, append_assoc}
use Rattle.connections.specs.{CitedLaws.EventsGoOn, CitedLaws.LinesCut, Traffic.Traffic, Events.Happening}
use Rattle.connections.specs.Clients.{Numbered, OccurAll, BegunLines, lines_of, begun_after_all, ServesAll, StandFor, RepliesInOrder}
use Rattle.desk.specs.Desk.{Office}
use Rattle.line_protocol.specs.{Replies.memory_text, Step.too_long_text, Step.line_limit, Step.LineStep, Step.IsStep, Step.taken, Step.ran_out, Step.step_of}
unfoldable use Rattle.line_protocol.specs.Step.{Replies}
use Rattle.records.specs.{Lines.record_of, Lines.events_in, Lines.AreRecordable, Records.NoneRanOut, Records.Alike, Records.RecordsGoOn}
use Rattle.records.{specs.Records.RecordsArePlayed, specs.Records.CutsArePlayed, proofs.Lines.whole_is_read, proofs.Lines.records_are_cut}

-- ---- the reply to a line, and the desk after it, are one where memory doesn't run out

step_alike : (o u v : Office) (s : LineStep) (x y : List ℕ) → IsStep o s x u → IsStep o s y v → x ≢ memory_text → y ≢ memory_text → (x ≡ y) × (u ≡ v)
step_alike o u v s x y (taken p) (taken q) a b =
    let both = sym p ∙ q in (ap (λ (l : LineStep). l.text) both, ap (λ (l : LineStep). l.office) both)
step_alike o u v s x y (ran_out p same) q a b = absurd (a p)
step_alike o u v s x y p (ran_out q same) a b = absurd (b q)

by_limit : (o u v : Office) (line x y : List ℕ) (t : Bool) → MatchBool t ((x ≡ too_long_text) × (u ≡ o)) (IsStep o (step_of o line) x u)
    → MatchBool t ((y ≡ too_long_text) × (v ≡ o)) (IsStep o (step_of o line) y v) → x ≢ memory_text → y ≢ memory_text → (x ≡ y) × (u ≡ v)
by_limit o u v line x y true p q a b = (p.0 ∙ sym q.0, p.1 ∙ sym q.1)
by_limit o u v line x y false p q a b = step_alike o u v (step_of o line) x y p q a b

reply_alike : (o u v : Office) (line x y : List ℕ) → Replies o line x u → Replies o line y v → x ≢ memory_text → y ≢ memory_text → (x ≡ y) × (u ≡ v)
unfolding Replies
reply_alike o u v line x y p q a b = by_limit o u v line x y (nat_lt line_limit (length line)) p q a b

served_alike : (o u v : Office) (ls : List Numbered) (x y : List Numbered) → ServesAll o ls x u → ServesAll o ls y v → NoneRanOut x → NoneRanOut y → u ≡ v
served_alike o u v [] x y p q a b = p.1 ∙ sym q.1
served_alike o u v (l ∷ ls) x y p q a b =
    let left = rw p.4 at a in
    let right = rw q.4 at b in
    let one = reply_alike o p.0 q.0 l.1 p.1 q.1 p.3 q.3 left.0 right.0 in served_alike p.0 u v ls p.2 q.2 p.5 (rw (← one.1) at q.5) left.1 right.1

events_alike : RepliesInOrder → (t u v : Traffic) (w : BegunLines) (es : List Happening) (x y : List Numbered) → StandFor t w
    → OccurAll t es x u → OccurAll t es y v → NoneRanOut x → NoneRanOut y → Alike u v
events_alike order t u v w es x y s p q a b =
    let one = order t u w es x s p in
    let other = order t v w es y s q in record {
      office = served_alike t.office u.office v.office (lines_of w es) x y one.0 other.0 a b;
      begun = begun_after_all w es;
      one = one.1;
      other = other.1;
    }

-- ---- records

pub ran-append : (a b : List Numbered) → NoneRanOut a → NoneRanOut b → NoneRanOut (a ++ b)
ran-append [] b p q = q
ran-append (x ∷ a) b p q = (p.0, ran-append a b p.1 q)

recordable-append : (a b : List Happening) → AreRecordable a → AreRecordable b → AreRecordable (a ++ b)
recordable-append [] b p q = q
recordable-append (x ∷ a) b p q = (p.0, recordable-append a b p.1 q)

pub record-append : (a b : List Happening) → record_of (a ++ b) ≡ record_of a ++ record_of b
record-append [] b = refl
record-append (x ∷ a) b = simp (record-append a b, append_assoc)

pub records_go_on : EventsGoOn → RecordsGoOn
records_go_on law t u v a b p q = record {
  events = p.events ++ q.events;
  replies = p.replies ++ q.replies;
  recordable = recordable-append p.events q.events p.recordable q.recordable;
  occur = law.occur-append t u v p.events q.events p.replies q.replies p.occur q.occur;
  none_ran_out = ran-append p.replies q.replies p.none_ran_out q.none_ran_out;
  is = ap (λ l. l ++ b) p.is ∙ ap (λ l. record_of p.events ++ l) q.is ∙ sym (record-append p.events q.events);
}

pub records_are_played : LinesCut → RepliesInOrder → RecordsArePlayed
records_are_played cuts order t u v w text s r p =
    let es : events_in text ≡ r.events = ap events_in r.is ∙ whole_is_read cuts r.events r.recordable in
    events_alike order t u v w r.events r.replies p.replies s r.occur (subst (λ l. OccurAll t l p.replies v) es p.occur) r.none_ran_out p.none_ran_out

-- ---- a record that is cut

-- events in two parts
pub occur-split : (t v : Traffic) (xs ys : List Happening) (rs : List Numbered) → OccurAll t (xs ++ ys) rs v
    → (u : Traffic) × (a b : List Numbered) × OccurAll t xs a u × OccurAll u ys b v × (rs ≡ a ++ b)
occur-split t v [] ys rs o = (t, [], rs, (refl, refl), o, refl)
occur-split t v (x ∷ xs) ys rs o =
    let later = occur-split o.0 v xs ys o.2 o.4 in (
      later.0,
      o.1 ++ later.1,
      later.2,
      (o.0, o.1, later.1, o.3, later.3, refl),
      later.4,
      o.5 ∙ ap (λ l. o.1 ++ l) later.5 ∙ sym (append_assoc o.1 later.1 later.2),
    )

pub ran-front : (a b : List Numbered) → NoneRanOut (a ++ b) → NoneRanOut a × NoneRanOut b
ran-front [] b p = (tt, p)
ran-front (x ∷ a) b p = let later = ran-front a b p.1 in ((p.0, later.0), later.1)

pub recordable-front : (a b : List Happening) → AreRecordable (a ++ b) → AreRecordable a × AreRecordable b
recordable-front [] b p = (tt, p)
recordable-front (x ∷ a) b p = let later = recordable-front a b p.1 in ((p.0, later.0), later.1)

pub cuts_are_played : LinesCut → RepliesInOrder → CutsArePlayed
cuts_are_played cuts order t u v w text n s r p =
    let cut = records_are_cut cuts r.events n r.recordable in
    let two = occur-split t u cut.front cut.rest r.replies (rw cut.are at r.occur) in
    let ran = ran-front two.1 two.2 (rw two.5 at r.none_ran_out) in
    let good = recordable-front cut.front cut.rest (rw cut.are at r.recordable) in
    let es : events_in (take n text) ≡ cut.front = rw r.is cut.read in
    let played = rw es at p.occur in record {
      kept = record_of cut.front;
      rest = record_of cut.rest;
      torn = cut.torn;
      there = two.0;
      whole = r.is ∙ ap record_of cut.are ∙ record-append cut.front cut.rest;
      front = ap (take n) r.is ∙ cut.text;
      no_line = cut.no_line;
      before = record { events = cut.front; replies = two.1; recordable = good.0; occur = two.3; none_ran_out = ran.0; is = refl };
      after = record { events = cut.rest; replies = two.2; recordable = good.1; occur = two.4; none_ran_out = ran.1; is = refl };
      alike = events_alike order t two.0 v w cut.front two.1 p.replies s two.3 played ran.0 p.none_ran_out;
      goes_on = record { events = cut.front; replies = p.replies; recordable = good.0; occur = played; none_ran_out = p.none_ran_out; is = refl };
    }
