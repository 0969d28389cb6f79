-- The op `changes`: lists of changes, and its row.
use Rattle.std.proofs.Common.{◌≡◌, ℕ, List, [], ◌∷◌, length, refl, sym, ap, ◌∙◌, subst, Ok, Err, Result}
use Rattle.desk.specs.Commands as commands
use Rattle.desk.proofs.Prelude.{LabelTable, Files, Document, DocFault, ChangeFault, Plan, TextUnit, changed, change_leaves, then_rest, one_more}
use Rattle.desk.proofs.Prelude.{none_made, changed_all, changed_from_none, changes_leave, changes_reply, MadeChanges, Leaves, TextChange}
use Rattle.desk.proofs.Prelude.{Entry, document_of, Applied, with_changes, ChangeCause, Fault, Encoded, chars}
use Rattle.desk.proofs.Change.{Possible, possible-changed, leaves, change-leaves}
use Rattle.desk.proofs.Edits as edits
use Rattle.desk.proofs.{Logs.all-untouched-leave, Logs.both-leave, Row.IsRow, Row.Decided, Row.Keeps, Row.Answered, Row.by-document}

-- ---- memory is no cause

abbrev DecidedAll : Result (Applied MadeChanges) Fault → Type 0
DecidedAll r = Decided (λ x. Unit {0}) r

decided-then : (made : MadeChanges) (n : ℕ) (rest : MadeChanges → Document → Result (Applied MadeChanges) Fault)
    (r : Result (Applied Plan) ChangeCause) → Possible r
    → ((more : MadeChanges) (d : Document) → DecidedAll (rest more d)) → DecidedAll (then_rest made n rest r)
decided-then made n rest (Ok x) p q = q (one_more made n x.done) x.document
decided-then made n rest (Err (ChangeCause.Plan ChangeFault.OutOfMemory)) p q = absurd p
decided-then made n rest (Err (ChangeCause.Splice DocFault.OutOfMemory)) p q = absurd p
decided-then made n rest (Err cause) p q = tt

decided-all : (unit : TextUnit) (made : MadeChanges) (cs : List TextChange) (d : Document) → DecidedAll (changed_all unit made cs d)
decided-all unit made [] d = tt
decided-all unit made (c ∷ cs) d =
    decided-then made (length d.bytes) (λ more. changed_all unit more cs) _ (possible-changed d unit c.range c.text (Encoded (chars c.text)))
    (λ more e. decided-all unit more cs e)

-- ---- what an accepted list leaves

-- the first change, and what the rest leaves of its document
pub record Goes (unit : TextUnit) (before : MadeChanges) (c : TextChange) (cs : List TextChange) (d : Document) (x : Applied MadeChanges) : Type 0 where
  pub first : Applied Plan
  pub made : changed unit c.range c.text d ≡ Ok first
  pub rest : changed_all unit (one_more before (length d.bytes) first.done) cs first.document ≡ Ok x

pub goes : (unit : TextUnit) (made : MadeChanges) (c : TextChange) (cs : List TextChange) (d : Document) (x : Applied MadeChanges)
    (r : Result (Applied Plan) ChangeCause)
    → changed unit c.range c.text d ≡ r → then_rest made (length d.bytes) (λ more. changed_all unit more cs) r ≡ Ok x → Goes unit made c cs d x
goes unit made c cs d x (Ok first) is e = record { first = first; made = is; rest = e }
goes unit made c cs d x (Err cause) is e = cc

-- the setting stays, and the bytes are those of the changes one after another
pub leaves_all : (unit : TextUnit) (made : MadeChanges) (cs : List TextChange) (d : Document) (x : Applied MadeChanges) → changed_all unit made cs d ≡ Ok x
    → x.document ≡ record d { bytes = with_changes d.indexes d.setting unit cs d.bytes }
leaves_all unit made [] d x e = let same = e in cc
leaves_all unit made (c ∷ cs) d x e =
    let by = goes unit made c cs d x _ refl e in
    leaves_all unit (one_more made (length d.bytes) by.first.done) cs by.first.document x by.rest
    ∙ ap (λ (y : Document). record y { bytes = with_changes y.indexes y.setting unit cs y.bytes })
    (leaves d unit c.range c.text (Encoded (chars c.text)) by.first by.made)

-- and what is unchanged since some bytes, of which the changes that were made left these
pub untouched_all : (unit : TextUnit) (made : MadeChanges) (cs : List TextChange) (d : Document) (x : Applied MadeChanges) (bytes : List ℕ)
    → changed_all unit made cs d ≡ Ok x → Leaves bytes d.bytes made.untouched → Leaves bytes x.document.bytes x.done.untouched
untouched_all unit made [] d x bytes e left =
    let is : x ≡ record { document = d; done = made } = let same = e in cc in
    subst (λ (y : Applied MadeChanges). Leaves bytes y.document.bytes y.done.untouched) (sym is) left
untouched_all unit made (c ∷ cs) d x bytes e left =
    let by = goes unit made c cs d x _ refl e in
    let one = change-leaves d unit c.range c.text (Encoded (chars c.text)) by.first by.made in
    untouched_all unit (one_more made (length d.bytes) by.first.done) cs by.first.document x bytes by.rest
    (both-leave bytes d.bytes by.first.document.bytes made.untouched (change_leaves by.first.done (length d.bytes)) left one)

-- ---- the row

module _ (indexes : Files) (labels : LabelTable) (rev : ℕ) (unit : TextUnit) (cs : List TextChange) where
  goes-on : (h : Entry) (x : Applied MadeChanges) → changed_from_none unit cs (document_of indexes h) ≡ Ok x
      → edits.Goes indexes h (commands.Changes rev unit cs) x (changes_leave x.done (length h.bytes))
  goes-on h x ok =
      let none = none_made (length h.bytes) in
      let is = leaves_all unit none cs (document_of indexes h) x ok in record {
        setting = ap (λ (d : Document). d.setting) is;
        bytes = sym (ap (λ (d : Document). d.bytes) is);
        leaves = untouched_all unit none cs (document_of indexes h) x h.bytes ok (all-untouched-leave h.bytes);
      }

  pub row : IsRow indexes labels (commands.Changes rev unit cs)
  row = record {
    keeps = λ place found. by-document Keeps found _ (λ e. refl) (λ h.
        edits.keeps-edited indexes h rev changes_leave changes_reply (λ x d r. refl) (changed_from_none unit cs));
    answered = λ place found. by-document Answered found _ (λ e. cc) (λ h.
        edits.answered-edited indexes h rev changes_leave changes_reply (λ x d r. refl) (changed_from_none unit cs)
        (decided-all unit (none_made (length h.bytes)) cs (document_of indexes h)));
    continues = λ place h.
        edits.continues-edited indexes h rev changes_leave changes_reply (λ x d r. refl) (changed_from_none unit cs)
        (commands.Changes rev unit cs) refl (goes-on h);
    placed = λ o found. refl;
  }
