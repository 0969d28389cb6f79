-- Edits are taken back by what their log has.
use Rattle.sum_tree.specs.Listed.{Listed}
use Rattle.piece_rope.proofs.Prelude.{◌≡◌, refl, sym, ap, ◌∙◌, subst, ℕ, ◌+◌, ◌-◌, ◌≤◌, List, [], ◌∷◌, ◌++◌, take, drop, length, Option, Some, None, Vec, arith}
use Rattle.piece_rope.proofs.Prelude.{append_assoc, length-append, take-append-drop, Global, IsReady, length-take-le, drop-drop, take_at, drop_at, Setting}
use Rattle.piece_rope.proofs.Prelude.{Files, Outcome, PreparedEdit, LoggedEdit, AreRenewed, bytes_of, edited, Entry, before_edit, before_all, tail_before}
use Rattle.piece_rope.proofs.Prelude.{GoBack, GoesBack, room_of, TakesBack, Logs, IsSameLog, earlier_of, Returns, CanReturn, IsHeld, Document, document}
use Rattle.piece_rope.proofs.Prelude.{spliced_document}
use Rattle.piece_rope.proofs.Chaining.{renewed-are}

-- ---- the last entry

pub before-last : (ps : List Entry) (es : List LoggedEdit) (e : LoggedEdit) → before_all ps (es ++ e ∷ []) ≡ before_all (before_edit ps e) es
before-last ps [] e = refl
before-last ps (x ∷ es) e = ap (λ (qs : List Entry). before_edit qs x) (before-last ps es e)

pub tail-last : (tail : Outcome) (es : List LoggedEdit) (e : LoggedEdit) → tail_before tail (es ++ e ∷ []) ≡ tail_before e.tail es
tail-last tail [] e = refl
tail-last tail (x ∷ es) e = refl

pub go-last : (room : ℕ) (ps : List Entry) (es : List LoggedEdit) (e : LoggedEdit) → GoBack room ps (es ++ e ∷ [])
    → GoBack room (before_edit ps e) es × GoesBack room ps e
go-last room ps [] e g = (tt, g.1)
go-last room ps (x ∷ es) e g = let rest = go-last room ps es e g.0 in ((rest.0, rw (before-last ps es e) at g.1), rest.1)

pub go-on : (room : ℕ) (ps : List Entry) (es : List LoggedEdit) (e : LoggedEdit) → GoBack room (before_edit ps e) es → GoesBack room ps e
    → GoBack room ps (es ++ e ∷ [])
go-on room ps [] e g last = (tt, last)
go-on room ps (x ∷ es) e g last = (go-on room ps es e g.0 last, rw (before-last ps es e) g.1)

-- more room isn't a hindrance
pub go-wider : (room more : ℕ) (ps : List Entry) (es : List LoggedEdit) → room ≤ more → GoBack room ps es → GoBack more ps es
go-wider room more ps [] l g = tt
go-wider room more ps (e ∷ es) l g = (go-wider room more ps es l g.0, record { within = g.1.within; room_is = omega (arith, l, g.1.room_is); join = g.1.join })

-- ---- an edit and its entry

-- pieces in a row are those before a part of them, the part, and those after it
part-of : (ps : List Entry) (first behind : ℕ) → first ≤ behind → take first ps ++ (take (behind - first) (drop first ps) ++ drop behind ps) ≡ ps
part-of ps first behind order =
    let far : first + (behind - first) ≡ behind = omega (arith, order) in
    cc (far, drop-drop (behind - first) first ps, take-append-drop (behind - first) (drop first ps), take-append-drop first ps)

module _ (ps : List Entry) (edit : PreparedEdit) (order : edit.first ≤ edit.last) (within : edit.last + length edit.renewals.items ≤ length ps)
    (are : AreRenewed (drop edit.last ps) edit.renewals.items) (put : ℕ) (put_is : put ≡ length edit.fresh.items + length edit.renewals.items) where
  abbrev front : List Entry
  front = take edit.first ps

  abbrev made : List Entry
  made = edit.fresh.items ++ edit.renewals.items

  abbrev rest : List Entry
  rest = drop (edit.last + length edit.renewals.items) ps

  -- the pieces after an edit, the new ones in a row
  in-row : edited ps edit ≡ front ++ (made ++ rest)
  in-row =
      let whole = renewed-are (drop edit.last ps) edit.renewals.items are in
      cc (whole, drop-drop (length edit.renewals.items) edit.last ps, append_assoc edit.fresh.items edit.renewals.items rest)

  long : length front ≡ edit.first
  long = length-take-le edit.first ps (omega (arith, order, within))

  reach : length (front ++ made) ≡ edit.first + put
  reach = omega (arith, length-append front made, length-append edit.fresh.items edit.renewals.items, long, put_is)

  pub within-edited : edit.first + put ≤ length (edited ps edit)
  within-edited = omega (arith, reach, ap length (in-row ∙ sym (append_assoc front made rest)), length-append (front ++ made) rest)

  pub back-edited : (taken : List Entry) → taken ≡ take ((edit.last + length edit.renewals.items) - edit.first) (drop edit.first ps)
      → take edit.first (edited ps edit) ++ (taken ++ drop (edit.first + put) (edited ps edit)) ≡ ps
  back-edited taken taken_is =
      let before : take edit.first (edited ps edit) ≡ front = cc (in-row, take_at front (made ++ rest) edit.first long) in
      let behind : drop (edit.first + put) (edited ps edit) ≡ rest =
      cc (in-row, append_assoc front made rest, drop_at (front ++ made) rest (edit.first + put) reach) in
      cc (before, behind, part-of ps edit.first (edit.last + length edit.renewals.items) (omega (arith, order, within)))

-- ---- a document that can come back

-- after an edit it returns to the same
module _ {files : Files} {setting : Setting} (old new : Listed Entry) (tail : Outcome) {new_tail : Outcome} {edit : PreparedEdit} {at del : ℕ}
    {ins : List ℕ} (ready : IsReady files setting old.items at del ins edit)
    (new_is : new.items ≡ edited old.items edit) (tail_is : new_tail ≡ edit.tail) (wider : room_of old ≤ room_of new) where
  returned : (es : List LoggedEdit) (e : LoggedEdit) → TakesBack old.items tail edit e → before_all new.items (es ++ e ∷ []) ≡ before_all old.items es
  returned es e back = cc (before-last new.items es e, new_is, back.pieces)

  returns-edited : (es : List LoggedEdit) (e : LoggedEdit) → TakesBack old.items tail edit e → Returns files setting old tail es
      → Returns files setting new new_tail (es ++ e ∷ [])
  returns-edited es e back r =
      let own : before_edit new.items e ≡ old.items = cc (new_is, back.pieces) in
      let ends : tail_before new_tail (es ++ e ∷ []) ≡ tail_before tail es = cc (tail-last new_tail es e, back.tail_is) in
      record {
        kept = rw (ends, returned es e back) r.kept;
        steps = go-on (room_of new) new.items es e (rw own (go-wider (room_of old) (room_of new) old.items es wider r.steps))
            (record { within = omega (arith, back.within, ap length new_is); room_is = omega (arith, ap length own, wider); join = rw own ready.old });
      }

  can-return : (log more : Option (Vec LoggedEdit Global)) → Logs old.items tail edit log more → CanReturn files setting old tail log
      → CanReturn files setting new new_tail more
  can-return None None logs r = tt
  can-return (Some log) (Some more) logs r = rw (logs.1) (returns-edited log.items logs.0 logs.2 r)
  can-return log more logs r = absurd logs

  same-earlier : (log more : Option (Vec LoggedEdit Global)) → Logs old.items tail edit log more → earlier_of new.items more ≡ earlier_of old.items log
  same-earlier None None logs = refl
  same-earlier (Some log) (Some more) logs = cc (logs.1, returned log.items logs.0 logs.2)
  same-earlier log more logs = absurd logs

  module _ (log more : Option (Vec LoggedEdit Global)) (logs : Logs old.items tail edit log more) where
    pub held-edited : IsHeld files setting old tail log → IsHeld files setting new new_tail more
    held-edited h = record { kept = rw (new_is, tail_is) ready.kept; back = can-return log more logs h.back }

    -- and contracts see the splice
    pub seen-edited : {self : Document} → record (document files setting (bytes_of old.items)) { earlier = earlier_of old.items log } ≡ self
        → record (document files setting (bytes_of new.items)) { earlier = earlier_of new.items more } ≡ spliced_document self at del ins
    seen-edited view_is = rw (← view_is, same-earlier log more logs, new_is, ready.bytes) refl

-- and so where an edit was refused
module _ (old new : Listed Entry) (new_is : new.items ≡ old.items) where
  still-by : (files : Files) (setting : Setting) (tail : Outcome) → room_of old ≤ room_of new → (log same : Option (Vec LoggedEdit Global)) → IsSameLog log same
      → CanReturn files setting old tail log → CanReturn files setting new tail same
  still-by files setting tail wider None None is r = tt
  still-by files setting tail wider (Some log) (Some same) is r =
      let steps = go-wider (room_of old) (room_of new) old.items log.items wider r.steps in
      rw is (record { kept = rw new_is r.kept; steps = subst (λ (qs : List Entry). GoBack (room_of new) qs log.items) (sym new_is) steps })
  still-by files setting tail wider log same is r = absurd is

  pub held-still : {files : Files} {setting : Setting} {tail new_tail : Outcome} → new_tail ≡ tail → room_of old ≤ room_of new
      → {log same : Option (Vec LoggedEdit Global)} → IsSameLog log same → IsHeld files setting old tail log → IsHeld files setting new new_tail same
  held-still {files} {setting} {tail} tail_is wider {log} {same} is h =
      rw tail_is (record { kept = rw new_is h.kept; back = still-by files setting tail wider log same is h.back })
