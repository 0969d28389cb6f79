-- What an accepted change leaves, and an accepted list of changes.
use Rattle.std.proofs.Common.{◌≡◌, ℕ, ◌+◌, ◌<◌, Bool, true, List, [], ◌∷◌, length, refl, sym, ap, ◌∙◌, arith, Some, None, Ok, Err, chars}
use Rattle.desk.specs.Commands as commands
use Rattle.desk.proofs.Prelude.{Option, Result, get, Files, Document, text_of, document, first_of, is_kept, kept_fault, spliced_document, replaced, DocFault}
use Rattle.desk.proofs.Prelude.{bytes_eq-Decides, Plan, TextUnit, is_accepted, unless_kept, made, changed, alone, change_leaves, change_reply, change_effect}
use Rattle.desk.proofs.Prelude.{plan_fault, then_rest, one_more, none_made, changed_all, changed_from_none, changes_leave, changes_reply, MadeChanges}
use Rattle.desk.proofs.Prelude.{Untouched, asked_of, TextChange, effect_of, Entry, document_of, max_number, Applied, put_applied, raised, at_revision, edited}
use Rattle.desk.proofs.Prelude.{Effect, of_document, Move, Puts, Stays, ChangeCause, Fault, Reply, Inserted, Encoded, Given, Range, Office, substituted}
use Rattle.desk.proofs.Prelude.{base64_bytes, with_bytes}
use Rattle.desk.specs.KeptText.{Replaces, ChangesKeepText, GivenBytesKeepText, Rewrites, RewritesAll, ListsKeepText, EachAccepted, ListsAreTheirChanges}
use Rattle.desk.proofs.{Begins.held_here, Begins.accepted_here, Edits.at_revision-ok, Edits.revision_named}
use Rattle.desk.proofs.{Moves.held_after, Moves.reply_is, Change.changed-ok, Change.alone-ok, Change.leaves, Changes.goes, Changes.leaves_all}

-- there is no fault, and so the text is kept
kept-ok : (fault : Option DocFault) (b : Bool) → first_of fault (unless_kept b) ≡ None → b ≡ true
kept-ok fault b e = grind arith

text-kept : (d : Document) (text : List ℕ) (plan : Plan) → plan_fault d text plan ≡ None
    → text_of (made d plan).document ≡ replaced (text_of d) plan.i plan.j text
text-kept d text plan e =
    (bytes_eq-Decides (text_of (spliced_document d plan.at plan.del plan.ins)) (replaced (text_of d) plan.i plan.j text)).0
    (kept-ok (kept_fault d plan.at plan.del plan.ins plan.i plan.j) (is_kept d plan.at plan.del plan.ins plan.i plan.j text) e)

-- ---- an edit that is accepted, as it is decided

record Decided {A : Type 0} (indexes : Files) (apply : Document → Result (Applied A) Fault) (leaves : A → ℕ → Untouched)
    (found : Option Entry) (move : Move) : Type 0 where
  before : Entry
  applied : Applied A
  is_found : found ≡ Some before
  is_applied : apply (document_of indexes before) ≡ Ok applied
  held : held_after found move ≡ Some (raised before applied.document (leaves applied.done (length before.bytes)))

module _ {A : Type 0} (indexes : Files) (rev : ℕ) (apply : Document → Result (Applied A) Fault) (leaves : A → ℕ → Untouched)
    (reply : A → Document → ℕ → Reply) where
  decided-put : (h : Entry) (r : Result (Applied A) Fault) → at_revision h rev (apply (document_of indexes h)) ≡ r
      → is_accepted (put_applied h leaves reply r).reply ≡ true → Decided indexes apply leaves (Some h) (put_applied h leaves reply r).move
  decided-put h (Ok x) e is = record {
    before = h;
    applied = x;
    is_found = refl;
    is_applied = (at_revision-ok h rev _ x e).1;
    held = refl;
  }
  decided-put h (Err f) e is = cc

  decided-by : (found : Option Entry) → (let t = of_document found (edited indexes rev apply leaves reply) in is_accepted t.reply ≡ true
      → Decided indexes apply leaves found t.move)
  decided-by None = λ is. cc
  decided-by (Some h) = decided-put h _ refl

-- an edit that replaces a range by bytes
module _ (o p : Office) (doc : List ℕ) (rev : ℕ) (unit : TextUnit) (range : Option Range) (text : List ℕ) where
  abbrev substitution : Inserted → Effect
  substitution new =
      of_document (get o.documents doc) (edited o.indexes rev (λ d. alone (substituted unit range text new d)) change_leaves change_reply)

  replaces : (new : Inserted) → is_accepted (substitution new).reply ≡ true → get p.documents doc ≡ held_after (get o.documents doc) (substitution new).move
      → Replaces o doc unit range text new p
  replaces new is held =
      let by = decided-by o.indexes rev (λ d. alone (substituted unit range text new d)) change_leaves change_reply (get o.documents doc) is in
      let d = document_of o.indexes by.before in
      let is = changed-ok d unit range text new by.applied (alone-ok _ by.applied by.is_applied) in
      let plan = by.applied.done in record {
        before = by.before;
        plan = plan;
        after = raised by.before (made d plan).document (change_leaves plan (length by.before.bytes));
        found = by.is_found;
        is_plan = is.is_plan;
        held = held ∙ by.held
            ∙ ap (λ (x : Applied Plan). Some (raised by.before x.document (change_leaves plan (length by.before.bytes)))) (sym is.left);
        leaves = refl;
        kept = text-kept d (chars text) plan is.faultless;
      }

  given : (bytes : Option (List ℕ)) → (let t = with_bytes bytes (λ b. substitution (Given b)) in is_accepted t.reply ≡ true
      → get p.documents doc ≡ held_after (get o.documents doc) t.move → (b : List ℕ) × (bytes ≡ Some b) × Replaces o doc unit range text (Given b) p)
  given None = λ is held. cc
  given (Some b) = λ is held. (b, refl, replaces (Given b) is held)

pub law_changes_keep_text : ChangesKeepText
law_changes_keep_text o p doc rev unit range text reply answers e =
    let c = asked_of doc (commands.Change rev unit range text) in
    replaces o p doc rev unit range text (Encoded (chars text)) (accepted_here o p c reply answers e) (held_here o p c reply answers e)

pub law_given_bytes_keep_text : GivenBytesKeepText
law_given_bytes_keep_text o p doc rev unit range text bytes reply answers e =
    let c = asked_of doc (commands.Replace rev unit range text bytes) in
    given o p doc rev unit range text (base64_bytes bytes) (accepted_here o p c reply answers e) (held_here o p c reply answers e)

-- ---- a list of changes

rewrites : (unit : TextUnit) (c : TextChange) (d : Document) (x : Applied Plan) → changed unit c.range c.text d ≡ Ok x → Rewrites unit c d x.document
rewrites unit c d x ok =
    let is = changed-ok d unit c.range c.text (Encoded (chars c.text)) x ok in
    let same : x.document ≡ (made d x.done).document = ap (λ (y : Applied Plan). y.document) (sym is.left) in record {
      plan = x.done;
      is_plan = is.is_plan;
      leaves = same;
      kept = ap text_of same ∙ text-kept d (chars c.text) x.done is.faultless;
    }

rewrites_all : (unit : TextUnit) (so_far : MadeChanges) (cs : List TextChange) (d : Document) (x : Applied MadeChanges) → changed_all unit so_far cs d ≡ Ok x
    → RewritesAll unit cs d x.document
rewrites_all unit so_far [] d x e = let same = e in cc
rewrites_all unit so_far (c ∷ cs) d x e =
    let by = goes unit so_far c cs d x _ refl e in (
      by.first.document,
      rewrites unit c d by.first by.made,
      rewrites_all unit (one_more so_far (length d.bytes) by.first.done) cs by.first.document x by.rest,
    )

pub law_lists_keep_text : ListsKeepText
law_lists_keep_text o p doc rev unit cs reply answers e =
    let c = asked_of doc (commands.Changes rev unit cs) in
    let by = decided-by o.indexes rev (changed_from_none unit cs) changes_leave changes_reply (get o.documents doc) (accepted_here o p c reply answers e) in
    let d = document_of o.indexes by.before in
    let x = by.applied in
    let none = none_made (length by.before.bytes) in
    let left = leaves_all unit none cs d x by.is_applied in record {
      before = by.before;
      after = raised by.before x.document x.done.untouched;
      found = by.is_found;
      held = held_here o p c reply answers e ∙ by.held;
      revision = refl;
      rewritten = rw left (rw left at (rewrites_all unit none cs d x by.is_applied));
    }

-- ---- a list is its changes

-- a change that puts an entry
put-by : (h k : Entry) (reply : Reply) (r : Result (Applied Plan) ChangeCause)
    → put_applied h change_leaves change_reply (alone r) ≡ record { reply = reply; move = Puts k }
    → (x : Applied Plan) × (r ≡ Ok x) × (k ≡ raised h x.document (change_leaves x.done (length h.bytes)))
put-by h k reply (Ok x) e = (x, refl, grind arith)
put-by h k reply (Err cause) e = let moves : Stays ≡ Puts k = ap (λ (t : Effect). t.move) e in cc

module _ (indexes : Files) (unit : TextUnit) where
  abbrev Doc : Entry → Document
  Doc h = document_of indexes h

  step : (h : Entry) → h.revision < max_number → (c : TextChange)
      → change_effect indexes h.revision unit c.range c.text h ≡ put_applied h change_leaves change_reply (alone (changed unit c.range c.text (Doc h)))
  step h lt c = ap (put_applied h change_leaves change_reply) (revision_named h h.revision (alone (changed unit c.range c.text (Doc h))) refl lt)

  each : (so_far : MadeChanges) (cs : List TextChange) (h : Entry) (x : Applied MadeChanges) → h.revision < max_number
      → changed_all unit so_far cs (Doc h) ≡ Ok x
      → EachAccepted indexes h.revision unit cs h (record h { setting = x.document.setting; bytes = x.document.bytes })
  each so_far [] h x lt e =
      let is : x ≡ record { document = Doc h; done = so_far } = let same = e in cc in
      ap (λ (y : Applied MadeChanges). record h { setting = y.document.setting; bytes = y.document.bytes }) is
  each so_far (c ∷ cs) h x lt e =
      let by = goes unit so_far c cs (Doc h) x _ refl e in
      let y = by.first in
      let k = raised h y.document (change_leaves y.done (length h.bytes)) in
      let g : Entry = record k { revision = h.revision; log = h.log } in
      let found : Doc g ≡ y.document = rw (leaves (Doc h) unit c.range c.text (Encoded (chars c.text)) y by.made) in
      let more = one_more so_far (length h.bytes) y.done in (
        change_reply y.done y.document (h.revision + 1),
        k,
        step h lt c ∙ ap (λ r. put_applied h change_leaves change_reply (alone r)) by.made,
        each more cs g x lt (ap (changed_all unit more cs) found ∙ by.rest),
      )

  all : (so_far : MadeChanges) (cs : List TextChange) (h last : Entry) → h.revision < max_number → EachAccepted indexes h.revision unit cs h last
      → (x : Applied MadeChanges) × (changed_all unit so_far cs (Doc h) ≡ Ok x)
  all so_far [] h last lt e = (record { document = Doc h; done = so_far }, refl)
  all so_far (c ∷ cs) h last lt e =
      let k = e.1 in
      let by = put-by h k e.0 _ (sym (step h lt c) ∙ e.2) in
      let g : Entry = record k { revision = h.revision; log = h.log } in
      let more = one_more so_far (length h.bytes) by.0.done in
      let rest = all more cs g last lt e.3 in
      let same : document indexes by.0.document.setting by.0.document.bytes ≡ by.0.document =
      rw (leaves (Doc h) unit c.range c.text (Encoded (chars c.text)) by.0 by.1) in
      let found : Doc g ≡ by.0.document = ap (λ (m : Entry). document indexes m.setting m.bytes) by.2 ∙ same in (
        rest.0,
        ap (then_rest so_far (length h.bytes) (λ m. changed_all unit m cs)) by.1 ∙ ap (changed_all unit more cs) (sym found) ∙ rest.1,
      )

pub law_lists_are_their_changes : ListsAreTheirChanges
law_lists_are_their_changes o p doc unit cs reply before found lt answers ne =
    let c = asked_of doc (commands.Changes before.revision unit cs) in
    let apply = changed_from_none unit cs in
    let none = none_made (length before.bytes) in
    let now = revision_named before before.revision (apply (document_of o.indexes before)) refl lt in
    let here : effect_of o c ≡ put_applied before changes_leave changes_reply (apply (document_of o.indexes before)) = cc now in (
      λ e.
          let by = decided-by o.indexes before.revision apply changes_leave changes_reply (get o.documents doc) (accepted_here o p c reply answers e) in
          let same : by.before ≡ before = cc by.is_found in
          let x = by.applied in (
            record before { setting = x.document.setting; bytes = x.document.bytes },
            x.done.untouched,
            each o.indexes unit none cs before x lt (rw same at by.is_applied),
            held_here o p c reply answers e ∙ (rw same at by.held),
          ),
      λ last each_is.
          let x = all o.indexes unit none cs before last lt each_is in
          let is : reply ≡ changes_reply x.0.done x.0.document (before.revision + 1) = cc (reply_is o p c reply answers ne, here, x.1) in
          ap is_accepted is,
    )
