-- Lives of a document: each accepted edit once, in its order.
use Rattle.std.proofs.Common.{◌≡◌, ◌≢◌, ℕ, ◌+◌, ◌&&◌, Bool, true, false, cond, List, [], ◌∷◌, ◌++◌, length}
use Rattle.std.proofs.Common.{if◌then◌else◌, refl, sym, ap, ◌∙◌, subst, ◌⊎◌, inl, inr, arith, length-append}
use Rattle.desk.proofs.Prelude.{is_some, Some, Ok, Err, Result, bytes_eq, bytes_eq-Decides, nat_list_cmp_total, get, Setting, Files, is_accepted, Ask, Asked}
use Rattle.desk.proofs.Prelude.{Office, Answers, effect, has_place, effect_of, Adopts, Entry, Move, Puts, Stays, Goes, edited_by, is_edit, Act, Commanded}
use Rattle.desk.proofs.Prelude.{Adopted, Acts, is_close, edit_in, edits_of, ends_life, edited_by_all, NameFrom, IsLife, Lives, adopted, Fault, OutOfMemory}
use Rattle.desk.proofs.Prelude.{Reply, Refused, LeaveEach, Untouched}
use Rattle.desk.proofs.Logs.{logged-append}
use Rattle.std.specs.FinMap as finite
use Rattle.desk.proofs.{Moves.held_after, Moves.reply_is, Moves.held_is, Names.same_test, Row.Continues}
use Rattle.desk.proofs.Rows as rows

-- ---- lives, one behind the other

pub life-nil : (indexes : Files) (h : Entry) → IsLife indexes h [] h
life-nil indexes h = record {
  setting = refl;
  revision = omega arith;
  named = tt;
  bytes = refl;
  left = [];
  each = tt;
  log = refl;
}

names-append : (r : ℕ) (es fs : List Ask) → NameFrom r es → NameFrom (r + length es) fs → NameFrom r (es ++ fs)
names-append r [] fs p q = subst (λ n. NameFrom n fs) (omega arith) q
names-append r (e ∷ es) fs p q = (p.0, names-append (r + 1) es fs p.1 (subst (λ n. NameFrom n fs) (omega arith) q))

edited-append : (indexes : Files) (setting : Setting) (bytes : List ℕ) (es fs : List Ask)
    → edited_by_all indexes setting bytes (es ++ fs) ≡ edited_by_all indexes setting (edited_by_all indexes setting bytes es) fs
edited-append indexes setting bytes [] fs = refl
edited-append indexes setting bytes (e ∷ es) fs = edited-append indexes setting (edited_by indexes setting bytes e) es fs

each-append : (indexes : Files) (setting : Setting) (bytes : List ℕ) (es fs : List Ask) (us vs : List Untouched) → LeaveEach indexes setting bytes es us
    → LeaveEach indexes setting (edited_by_all indexes setting bytes es) fs vs → LeaveEach indexes setting bytes (es ++ fs) (us ++ vs)
each-append indexes setting bytes [] fs [] vs p q = q
each-append indexes setting bytes (e ∷ es) fs (u ∷ us) vs p q = (p.0, each-append indexes setting (edited_by indexes setting bytes e) es fs us vs p.1 q)
each-append indexes setting bytes es fs us vs p q = absurd p

life-trans : (indexes : Files) (h k m : Entry) (es fs : List Ask) → IsLife indexes h es k → IsLife indexes k fs m → IsLife indexes h (es ++ fs) m
life-trans indexes h k m es fs p q = record {
  setting = q.setting ∙ p.setting;
  revision = omega (arith, q.revision, p.revision, length-append es fs);
  named = names-append h.revision es fs p.named (rw p.revision at q.named);
  bytes = rw (q.bytes, p.bytes, p.setting) (sym (edited-append indexes h.setting h.bytes es fs));
  left = p.left ++ q.left;
  each = each-append indexes h.setting h.bytes es fs p.left q.left p.each (rw (p.setting, p.bytes) at q.each);
  log = rw (q.log, p.log) (sym (logged-append h.log p.left q.left));
}

-- ---- one act

by_move : (indexes : Files) (h : Entry) (ask : Ask) (reply : Reply) (move : Move) → Continues indexes h ask reply move
    → (is_close ask && is_accepted reply) ≡ false
    → (k : Entry) × (held_after (Some h) move ≡ Some k) × IsLife indexes h (if is_edit ask && is_accepted reply then ask ∷ [] else []) k
by_move indexes h ask reply Stays is lasts = (h, refl, rw is (life-nil indexes h))
by_move indexes h ask reply (Puts k) is lasts = (k, refl, rw is.0 is.1)
by_move indexes h ask reply Goes is lasts = let no : true ≡ false = sym is ∙ lasts in cc

wants : (reply : Reply) → (reply ≡ Refused OutOfMemory) ⊎ (reply ≢ Refused OutOfMemory)
wants (Refused OutOfMemory) = inl refl
wants reply = inr (λ e. cc)

module _ (d : List ℕ) (o p : Office) (h : Entry) (found : get o.documents d ≡ Some h) where
  abbrev Goal : List Ask → Type 0
  Goal edits = (k : Entry) × (get p.documents d ≡ Some k) × IsLife o.indexes h edits k

  stays : get p.documents d ≡ get o.documents d → Goal []
  stays same = (h, same ∙ found, life-nil o.indexes h)

  module _ (c : Asked) (reply : Reply) (answers : Answers o c reply p) where
    abbrev Edits : Bool → List Ask
    Edits same = if same && (is_edit c.ask && is_accepted reply) then c.ask ∷ [] else []

    wanting : reply ≡ Refused OutOfMemory → Goal (Edits (bytes_eq c.doc d))
    wanting e =
        let step : p.documents ≡ o.documents = rw e at answers.step in
        let none : Edits (bytes_eq c.doc d) ≡ [] = grind arith in
        rw none (stays (ap (λ m. get m d) step))

    effect_here : bytes_eq c.doc d ≡ true → effect_of o c ≡ effect o.indexes o.labels (has_place o.documents) (Some h) c.ask
    effect_here e = cc ((bytes_eq-Decides c.doc d).0 e)

    goes_on : reply ≢ Refused OutOfMemory → bytes_eq c.doc d ≡ true → Continues o.indexes h c.ask reply (effect_of o c).move
    goes_on ne e = rw (← reply_is o p c reply answers ne, effect_here e) ((rows.row o.indexes o.labels c.ask).continues (has_place o.documents) h)

    decided : reply ≢ Refused OutOfMemory → (t : Bool) → bytes_eq c.doc d ≡ t → (t && (is_close c.ask && is_accepted reply)) ≡ false → Goal (Edits t)
    decided ne true e lasts =
        let one = by_move o.indexes h c.ask reply (effect_of o c).move (goes_on ne e) lasts in
        (one.0, cc (held_is o p c reply answers ne d, one.1), one.2)
    decided ne false e lasts = stays (cc (held_is o p c reply answers ne d))

  module _ (name : List ℕ) (setting : Setting) (bytes : List ℕ) (rev : ℕ) where
    beside : (k : Entry) → adopted o.indexes (has_place o.documents) (get o.documents name) setting bytes rev ≡ Ok k → (t : Bool)
        → bytes_eq name d ≡ t → get (finite.insert o.documents name k) d ≡ get o.documents d
    beside k ok true e =
        let there : is_some (get o.documents name) ≡ true = cc ((bytes_eq-Decides name d).0 e) in
        let no = rw there at ok in cc
    beside k ok false e = finite.get-insert nat_list_cmp_total o.documents name k d ∙ ap (λ b. cond b (Some k) (get o.documents d)) (same_test name d ∙ e)

    adopting : (answer : Result (Unit {0}) Fault) → Adopts o name setting bytes rev answer p → get p.documents d ≡ get o.documents d
    adopting (Ok x) a = ap (λ m. get m d) a.step.2 ∙ beside a.step.0 a.step.1 (bytes_eq name d) refl
    adopting (Err OutOfMemory) a = ap (λ m. get m d) a.step
    adopting (Err f) a = ap (λ m. get m d) a.step.1

  one_act : (a : Act) → Acts o a p → ends_life d a ≡ false → Goal (edit_in d a)
  one_act (Commanded c reply) answers lasts =
      elim (wants reply) [ inl e ↦ wanting c reply answers e | inr ne ↦ decided c reply answers ne (bytes_eq c.doc d) refl lasts ]
  one_act (Adopted name setting bytes rev answer) adopts lasts = stays (adopting name setting bytes rev answer adopts)

same_indexes : (o p : Office) (a : Act) → Acts o a p → p.indexes ≡ o.indexes
same_indexes o p (Commanded c reply) a = a.indexes
same_indexes o p (Adopted name setting bytes rev answer) a = a.indexes

pub lives : Lives
lives d o p [] begin found acts lasts = (begin, ap (λ (x : Office). get x.documents d) acts ∙ found, life-nil o.indexes begin)
lives d o p (a ∷ more) begin found acts lasts =
    let mid = acts.0 in
    let one = one_act d o mid begin found a acts.1 lasts.0 in
    let rest = lives d mid p more one.0 one.1 acts.2 lasts.1 in
    let later = subst (λ i. IsLife i one.0 (edits_of d more) rest.0) (same_indexes o mid a acts.1) rest.2 in
    (rest.0, rest.1, life-trans o.indexes begin one.0 rest.0 (edit_in d a) (edits_of d more) one.2 later)
