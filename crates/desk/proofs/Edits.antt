-- What the edits have in common: their steps, and their rows.
use Rattle.std.proofs.Common.{◌≡◌, ◌≢◌, ℕ, ◌+◌, ◌&&◌, ◌==◌, true, nat_lt, List, [], ◌∷◌, length, refl, sym, ap, ◌∙◌, subst, arith}
use Rattle.std.proofs.{Math.Bool.and-false, lemmas.Map.Steps.set_value_same}
use Rattle.desk.proofs.Prelude.{IfOk, OnErr, Some, None, Ok, Err, Result, nat_tests, lookup, set_value, Files, Document, splice_fault, is_accepted, is_some}
use Rattle.desk.proofs.Prelude.{reports_change, Ask, IsOutcome, outcome, Entry, reply_of, document_of, max_number, Applied, put_applied, at_revision, edited}
use Rattle.desk.proofs.Prelude.{Makes, Effect, of_document, Puts, edited_by, is_edit, named_by, AllOpened, entry_of, ◌<◌, ◌≤◌, names, Fault, NoDocument}
use Rattle.desk.proofs.Prelude.{OutOfMemory, OpenDocument, Reply, Refused, Leaves, logged, Untouched}
use Rattle.std.specs.FinMap as finite
use Rattle.desk.proofs.Names.{at_text, entry_none, entry_some, names_updated, opened_found, Map, Updates}
use Rattle.desk.proofs.Row.{ContinuesBy, Keeps, Answered, Decided, Caused, decided-if}
use Rattle.desk.proofs.Several.{idle-document}

-- ---- steps

module _ (old new : Map) (doc : List ℕ) where
  abbrev Here : Effect → Reply → Type 0
  Here effect reply = IsOutcome (outcome (names old.entries) doc effect) reply (names old.entries) (names new.entries)

  -- what is asked of the document at the name
  abbrev pub Step : (Entry → Effect) → Reply → Type 0
  Step ask reply = Here (of_document (finite.get (names old.entries) doc) ask) reply

  -- there is no document
  pub nowhere : (ask : Entry → Effect) → None ≡ lookup (at_text doc) old.entries → new.entries ≡ old.entries → Step ask (Refused NoDocument)
  nowhere ask none same =
      ap (λ f. outcome (names old.entries) doc (of_document f ask)) (entry_none doc old.entries none)
      ∙ ap (λ es. record { reply = Refused NoDocument; documents = names es }) (sym same)

  -- this one is
  pub there : (ask : Entry → Effect) (k : OpenDocument) (reply : Reply) → Some k ≡ lookup (at_text doc) old.entries
      → Here (ask (entry_of k)) reply → Step ask reply
  there ask k reply some step = subst (λ f. Here (of_document f ask) reply) (sym (entry_some doc old.entries k some)) step

  accepted : (effect : Effect) (h : Entry) (reply : Reply) → is_accepted reply ≡ true → effect ≡ record { reply = reply; move = Puts h }
      → names new.entries ≡ finite.insert (names old.entries) doc h → Here effect reply
  accepted effect h (Refused f) is makes same = cc
  accepted effect h reply is makes same = ap (outcome (names old.entries) doc) makes ∙ ap (λ n. record { reply = reply; documents = n }) (sym same)

  not_made : (effect : Effect) (h : Entry) (f : Fault) → Makes effect (Err f) h → names new.entries ≡ names old.entries → Here effect (Refused f)
  not_made effect h OutOfMemory makes same = same
  not_made effect h f makes same = ap (outcome (names old.entries) doc) makes ∙ ap (λ n. record { reply = Refused f; documents = n }) (sym same)

  -- an edit that made the document l of k, or was refused
  module _ (indexes : Files) (edit : Files → Entry → Effect) (k l : OpenDocument) (some : Some k ≡ lookup (at_text doc) old.entries)
      (all : AllOpened indexes old.entries) where
    made : (answer : Result Reply Fault) → Makes (edit indexes (entry_of k)) answer (entry_of l)
        → IfOk answer (λ reply. is_accepted reply ≡ true) → OnErr answer (l ≡ k)
        → new.entries ≡ set_value (at_text doc) old.entries l → Updates doc old new (Some l) → Here (edit indexes (entry_of k)) (reply_of answer)
    made (Ok reply) makes is same write updates = accepted (edit indexes (entry_of k)) (entry_of l) reply is makes (names_updated doc old new l updates)
    made (Err f) makes is same write updates =
        not_made (edit indexes (entry_of k)) (entry_of l) f makes
        (ap names (write ∙ ap (set_value (at_text doc) old.entries) same ∙ set_value_same (at_text doc) old.entries k (sym some)))

    pub edited_here : (answer : Result Reply Fault) → Makes (edit k.document.indexes (entry_of k)) answer (entry_of l)
        → IfOk answer (λ reply. is_accepted reply ≡ true) → OnErr answer (l ≡ k)
        → new.entries ≡ set_value (at_text doc) old.entries l → Updates doc old new (Some l) → Step (edit indexes) (reply_of answer)
    edited_here answer makes is same write updates =
        there (edit indexes) k (reply_of answer) some
        (made answer (subst (λ i. Makes (edit i (entry_of k)) answer (entry_of l))
        (opened_found indexes doc old.entries k all some).idle.files makes) is same write updates)

-- ---- the revision that an edit names

-- it is the one now, and can be raised
abbrev pub Passes : Entry → ℕ → Type 0
Passes h rev = let ok : Result (Unit {0}) Fault = Ok tt in ok ≡ at_revision h rev ok

module _ {A : Type 0} (h : Entry) (rev : ℕ) (answer : Result A Fault) where
  pub revision_named : rev ≡ h.revision → h.revision < max_number → at_revision h rev answer ≡ answer
  revision_named now few = grind (arith, nat_tests)

  pub revision_spent : rev ≡ h.revision → max_number ≤ h.revision → at_revision h rev answer ≡ Err Fault.RevisionsSpent
  revision_spent now last = grind (arith, nat_tests)

  pub revision_stale : rev ≢ h.revision → at_revision h rev answer ≡ Err (Fault.Stale h.revision)
  revision_stale other = grind (arith, nat_tests)

  passed : Passes h rev → at_revision h rev answer ≡ answer
  passed e = grind (arith, nat_tests)

-- ---- an edit of an open document

pub edit_made : {A : Type 0} (k : OpenDocument) (rev names_rev : ℕ) (apply : Document → Result (Applied A) Fault) (leaves : A → ℕ
    → Untouched) (answer : A → Document → ℕ → Reply)
    (made : A) (d : Document) (u : Untouched) (log : List Untouched) (reply : Reply)
    → k.document.earlier ≡ None → rev ≡ names_rev → Passes (entry_of k) rev → apply k.document ≡ Ok (record { document = d; done = made })
    → u ≡ leaves made (length k.document.bytes) → log ≡ logged k.log u → reply ≡ answer made d (k.revision + 1)
    → edited k.document.indexes names_rev apply leaves answer (entry_of k)
    ≡ record { reply = reply; move = Puts (record { setting = d.setting; bytes = d.bytes; revision = k.revision + 1; log = log }) }
edit_made k rev names_rev apply leaves answer made d u log reply idle same may applies left logs replies =
    let h = entry_of k in
    let now = passed h names_rev (apply (document_of k.document.indexes h)) (rw same at may) in
    rw (replies, logs, left, now, idle-document k.document.indexes k.document refl idle, applies) refl

-- ---- an edit that is accepted

-- it names the revision
pub at_revision-ok : {A : Type 0} (h : Entry) (rev : ℕ) (answer : Result A Fault) (k : A) → at_revision h rev answer ≡ Ok k
    → (rev ≡ h.revision) × (answer ≡ Ok k)
at_revision-ok h rev answer k e = (grind (arith, nat_tests), grind (arith, nat_tests))

-- ---- the row

pub caused-splice : (bytes : List ℕ) (at del : ℕ) (ins : List ℕ) → Caused (splice_fault bytes at del ins)
unfolding splice_fault
caused-splice bytes at del ins = λ e. grind arith

accepts : (reply : Reply) → reports_change reply ≡ true → is_accepted reply ≡ true
accepts (Refused f) e = cc
accepts reply e = refl

-- what an edit that is accepted leaves of an entry
pub record Goes (indexes : Files) (h : Entry) (ask : Ask) {A : Type 0} (x : Applied A) (u : Untouched) : Type 0 where
  pub setting : x.document.setting ≡ h.setting
  pub bytes : edited_by indexes h.setting h.bytes ask ≡ x.document.bytes
  pub leaves : Leaves h.bytes x.document.bytes u

-- an edit of an entry, whose accepted reply reports a change
module _ {A : Type 0} (indexes : Files) (h : Entry) (rev : ℕ) (leaves : A → ℕ → Untouched) (reply : A → Document → ℕ → Reply)
    (reports : (x : A) (d : Document) (r : ℕ) → reports_change (reply x d r) ≡ true)
    (apply : Document → Result (Applied A) Fault) where
  keeps-put : (r : Result (Applied A) Fault) → Keeps (put_applied h leaves reply r)
  keeps-put (Ok x) = λ e. cc (reports x.done x.document (h.revision + 1))
  keeps-put (Err f) = λ e. refl

  pub keeps-edited : Keeps (edited indexes rev apply leaves reply h)
  keeps-edited = keeps-put (at_revision h rev (apply (document_of indexes h)))

  abbrev Possible : Result (Applied A) Fault → Type 0
  Possible r = Decided (λ x. Unit {0}) r

  answered-put : (r : Result (Applied A) Fault) → Possible r → Answered (put_applied h leaves reply r)
  answered-put (Ok x) p = λ is. cc (reports x.done x.document (h.revision + 1))
  answered-put (Err OutOfMemory) p = absurd p
  answered-put (Err f) p = λ e. cc

  pub answered-edited : Possible (apply (document_of indexes h)) → Answered (edited indexes rev apply leaves reply h)
  answered-edited p =
      answered-put (at_revision h rev (apply (document_of indexes h)))
      (decided-if (λ x. Unit {0}) (rev == h.revision) _ _ (decided-if (λ x. Unit {0}) (nat_lt h.revision max_number) _ _ p tt) tt)

  -- it is one more of the edits in the document's life
  module _ (ask : Ask) (named : named_by ask ≡ Some rev)
      (goes : (x : Applied A) → apply (document_of indexes h) ≡ Ok x → Goes indexes h ask x (leaves x.done (length h.bytes))) where
    continues-put : (r : Result (Applied A) Fault) → at_revision h rev (apply (document_of indexes h)) ≡ r
        → ContinuesBy indexes h ask (put_applied h leaves reply r)
    continues-put (Ok x) e =
        let ok = at_revision-ok h rev (apply (document_of indexes h)) x e in
        let went = goes x ok.1 in
        let answer = reply x.done x.document (h.revision + 1) in
        let report = reports x.done x.document (h.revision + 1) in (
          ap (λ n. is_some n && is_accepted answer) named ∙ accepts answer report,
          record {
            setting = went.setting;
            revision = omega arith;
            named = (named ∙ ap Some ok.0, tt);
            bytes = sym went.bytes;
            left = leaves x.done (length h.bytes) ∷ [];
            each = (rw went.bytes went.leaves, tt);
            log = refl;
          },
        )
    continues-put (Err f) e = and-false (is_edit ask)

    pub continues-edited : ContinuesBy indexes h ask (edited indexes rev apply leaves reply h)
    continues-edited = continues-put (at_revision h rev (apply (document_of indexes h))) refl
