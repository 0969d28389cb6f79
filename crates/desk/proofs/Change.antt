-- The row of the op `change`, and what its like have in common.
use Rattle.std.proofs.Common.{◌≡◌, ◌≢◌, ◌≤◌, ◌+◌, ℕ, Bool, false, List, length, refl, sym, ap, ◌∙◌, subst, arith, Some, None, Ok, Err, Option, Result, chars}
use Rattle.desk.specs.Commands as commands
use Rattle.desk.proofs.Prelude.{LabelTable, Encoding, Files, encoded_in, bytes_only, EncodeFault, Document, document, decoded, kept_fault, splice_fault}
use Rattle.desk.proofs.Prelude.{output_at, DocFault, put_in, bytes_in, Inserted, Encoded, Given, planned, replacing, ChangeFault, Plan, Range, TextUnit}
use Rattle.desk.proofs.Prelude.{made, made_unless, carried_out, substituted}
use Rattle.desk.proofs.Prelude.{alone, change_reply, plan_fault, Entry, document_of, Applied, with_planned, with_new, ChangeCause, Fault, nat_tests}
use Rattle.desk.proofs.Prelude.{range_fault, change_leaves, Leaves, untouched_by, Ask, named_by, edited_by, edited}
use Rattle.desk.proofs.Edits.{Goes, keeps-edited, answered-edited, continues-edited}
use Rattle.desk.proofs.{Logs.splice-leaves, Row.IsRow, Row.Decided, Row.Caused, Row.Keeps, Row.Answered, Row.ContinuesBy, Row.by-document}
use Rattle.decoder_core.specs.declared.fault.Unencodable.{Unencodable as NoBytes}
use Rattle.encoders.specs.Steps.{Put}

-- ---- a change that is accepted

-- it is as planned
pub record IsMade (d : Document) (unit : TextUnit) (range : Option Range) (text : List ℕ) (new : Inserted) (x : Applied Plan) : Type 0 where
  pub is_plan : planned d range unit new ≡ Ok x.done
  pub faultless : plan_fault d (chars text) x.done ≡ None
  pub left : made d x.done ≡ x

pub changed-ok : (d : Document) (unit : TextUnit) (range : Option Range) (text : List ℕ) (new : Inserted) (x : Applied Plan)
    → substituted unit range text new d ≡ Ok x → IsMade d unit range text new x
changed-ok d unit range text new x e = record { is_plan = grind arith; faultless = grind arith; left = grind arith }

-- an edit of several parts that is under way changes no plan
pub planned-as : (d : Document) (range : Option Range) (unit : TextUnit) (new : Inserted)
    → planned d range unit new ≡ planned (document d.indexes d.setting d.bytes) range unit new
unfolding planned replacing
planned-as d range unit (Encoded text) = grind arith
planned-as d range unit (Given bytes) = grind arith

-- ---- memory is no cause

bytes-cause : {S : Type 0} (r : Result (Put S) NoBytes) → bytes_only r ≢ Err EncodeFault.OutOfMemory
bytes-cause r = λ e. grind arith

encoded-cause : (files : Files) (encoding : Encoding) (html : Bool) (cs : List ℕ) → encoded_in files encoding html cs ≢ Err EncodeFault.OutOfMemory
encoded-cause files Encoding.Replacement html cs = λ e. cc
encoded-cause files Encoding.Iso2022Jp html cs = bytes-cause _
encoded-cause files encoding html cs = bytes-cause _

put-cause : (d : Document) (encoding : Encoding) (left right : ℕ) (text : List ℕ)
    → put_in d encoding (output_at d left) (output_at d right) right text ≢ Err EncodeFault.OutOfMemory
put-cause d Encoding.Iso2022Jp left right text = bytes-cause _
put-cause d encoding left right text = encoded-cause d.indexes encoding false text

new-cause : (d : Document) (encoding : Encoding) (left right : ℕ) (new : Inserted)
    → bytes_in d encoding (output_at d left) (output_at d right) right new ≢ Err EncodeFault.OutOfMemory
new-cause d encoding left right (Encoded text) = put-cause d encoding left right text
new-cause d encoding left right (Given bytes) = λ e. cc

abbrev pub Planless : Result Plan ChangeFault → Type 0
Planless r = r ≢ Err ChangeFault.OutOfMemory

pub planned-cause : (d : Document) (range : Option Range) (unit : TextUnit) (new : Inserted) → Planless (planned d range unit new)
unfolding planned replacing
planned-cause d range unit new = λ e. grind (arith, λ (left right : ℕ). new-cause d (decoded d).encoding left right new)

-- ---- what refuses a change

pub caused-cut : (d : Document) (plan : Plan) → Caused (kept_fault d plan.at plan.del plan.ins plan.i plan.j)
unfolding splice_fault range_fault
caused-cut d plan = λ e. grind arith

caused-plan : (d : Document) (text : List ℕ) (plan : Plan) → Caused (plan_fault d text plan)
caused-plan d text plan = λ e. grind (arith, caused-cut d plan)

-- not for memory
abbrev pub Possible : {A : Type 0} → Result A ChangeCause → Type 0
Possible r = Decided (λ x. Unit {0}) (alone r)

possible-unless : (fault : Option DocFault) (x : Applied Plan) → Caused fault → Possible (made_unless fault x)
possible-unless None x p = tt
possible-unless (Some DocFault.OutOfMemory) x p = absurd (p refl)
possible-unless (Some fault) x p = tt

possible-carried : (d : Document) (text : List ℕ) (r : Result Plan ChangeFault) → Planless r → Possible (carried_out d text r)
possible-carried d text (Ok plan) ne = possible-unless (plan_fault d text plan) (made d plan) (caused-plan d text plan)
possible-carried d text (Err ChangeFault.OutOfMemory) ne = absurd (ne refl)
possible-carried d text (Err fault) ne = tt

pub possible-changed : (d : Document) (unit : TextUnit) (range : Option Range) (text : List ℕ) (new : Inserted)
    → Possible (substituted unit range text new d)
possible-changed d unit range text new = possible-carried d (chars text) _ (planned-cause d range unit new)

-- ---- the row

-- what an accepted change leaves: the setting, and the bytes of the planned splice
pub leaves : (d : Document) (unit : TextUnit) (range : Option Range) (text : List ℕ) (new : Inserted) (x : Applied Plan)
    → substituted unit range text new d ≡ Ok x
    → x.document ≡ record d { bytes = with_new d.indexes d.setting unit range new d.bytes }
unfolding planned replacing
leaves d unit range text new x ok =
    let is = changed-ok d unit range text new x ok in
    ap (λ (y : Applied Plan). y.document) (sym is.left) ∙ ap (λ (r : Result Plan ChangeFault). record d { bytes = with_planned d.bytes r }) (sym is.is_plan)

-- and what is unchanged
change-fits : (d : Document) (text : List ℕ) (plan : Plan) → plan_fault d text plan ≡ None → plan.at + plan.del ≤ length d.bytes
unfolding splice_fault
change-fits d text plan e = grind (arith, nat_tests)

pub change-leaves : (d : Document) (unit : TextUnit) (range : Option Range) (text : List ℕ) (new : Inserted) (x : Applied Plan)
    → substituted unit range text new d ≡ Ok x
    → Leaves d.bytes x.document.bytes (change_leaves x.done (length d.bytes))
change-leaves d unit range text new x ok =
    let is = changed-ok d unit range text new x ok in
    let plan = x.done in
    subst (λ (y : Applied Plan). Leaves d.bytes y.document.bytes (untouched_by plan.at plan.del (length plan.ins) (length d.bytes))) is.left
    (splice-leaves d.bytes plan.at plan.del plan.ins (change-fits d (chars text) plan is.faultless))

pub alone-ok : (r : Result (Applied Plan) ChangeCause) (x : Applied Plan) → alone r ≡ Ok x → r ≡ Ok x
alone-ok (Ok y) x e = let same = e in cc
alone-ok (Err cause) x e = cc

-- ---- the rows of edits that put bytes in the place of a range

module _ (indexes : Files) (rev : ℕ) (unit : TextUnit) (range : Option Range) (text : List ℕ) (new : Inserted) where
  abbrev apply : Document → Result (Applied Plan) Fault
  apply d = alone (substituted unit range text new d)

  pub keeps-substituted : (h : Entry) → Keeps (edited indexes rev apply change_leaves change_reply h)
  keeps-substituted h = keeps-edited indexes h rev change_leaves change_reply (λ x d r. refl) apply

  pub answered-substituted : (h : Entry) → Answered (edited indexes rev apply change_leaves change_reply h)
  answered-substituted h =
      answered-edited indexes h rev change_leaves change_reply (λ x d r. refl) apply (possible-changed (document_of indexes h) unit range text new)

  module _ (h : Entry) (ask : Ask) (named : named_by ask ≡ Some rev)
      (bytes : edited_by indexes h.setting h.bytes ask ≡ with_new indexes h.setting unit range new h.bytes) where
    goes : (x : Applied Plan) → apply (document_of indexes h) ≡ Ok x → Goes indexes h ask x (change_leaves x.done (length h.bytes))
    goes x ok =
        let made-is = alone-ok _ x ok in
        let is = leaves (document_of indexes h) unit range text new x made-is in record {
          setting = ap (λ (d : Document). d.setting) is;
          bytes = bytes ∙ sym (ap (λ (d : Document). d.bytes) is);
          leaves = change-leaves (document_of indexes h) unit range text new x made-is;
        }

    pub continues-substituted : ContinuesBy indexes h ask (edited indexes rev apply change_leaves change_reply h)
    continues-substituted = continues-edited indexes h rev change_leaves change_reply (λ x d r. refl) apply ask named goes

-- ---- that of a change

pub row : (indexes : Files) (labels : LabelTable) (rev : ℕ) (unit : TextUnit) (range : Option Range) (text : List ℕ)
    → IsRow indexes labels (commands.Change rev unit range text)
row indexes labels rev unit range text =
    let new = Encoded (chars text) in record {
      keeps = λ place found. by-document Keeps found _ (λ e. refl) (keeps-substituted indexes rev unit range text new);
      answered = λ place found. by-document Answered found _ (λ e. cc) (answered-substituted indexes rev unit range text new);
      continues = λ place h. continues-substituted indexes rev unit range text new h (commands.Change rev unit range text) refl refl;
      placed = λ o found. refl;
    }
