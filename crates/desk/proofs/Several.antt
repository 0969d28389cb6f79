-- Lists of changes, made while an edit of several parts is under way: that changes nothing but what the document can come back to.
use Rattle.desk.proofs.Prelude.{◌≡◌, ℕ, List, [], ◌∷◌, length, None, Ok, Err, Option, Result, chars, sym, refl, ap, ◌∙◌, arith, Encoding, Files, Document}
use Rattle.desk.proofs.Prelude.{document, decoded, begun, settled, put_in, Encoded, planned, replacing, ChangeFault, Plan, Range, TextUnit, carried_out}
use Rattle.desk.proofs.Prelude.{then_rest, one_more, none_made, changed_all, changed_from_none, MadeChanges, TextChange, Applied, Applies, OnlyBytes}
use Rattle.desk.proofs.Prelude.{ChangeCause, Fault, OutOfMemory, changed}
use Rattle.piece_rope.specs.Decode.{OutputState}

-- what an edit left, of a document that can come back to these bytes
abbrev pub with_earlier : {A F : Type 0} → Option (List ℕ) → Result (Applied A) F → Result (Applied A) F
with_earlier e (Ok x) = Ok (record { document = record x.document { earlier = e }; done = x.done })
with_earlier e (Err fault) = Err fault

module _ (d : Document) (e : Option (List ℕ)) where
  abbrev beside : Document
  beside = record d { earlier = e }

  put-as : (encoding : Encoding) (s r : OutputState) (right : ℕ) (text : List ℕ) → put_in beside encoding s r right text ≡ put_in d encoding s r right text
  put-as Encoding.Iso2022Jp s r right text = refl
  put-as encoding s r right text = refl

  planned-as : (range : Option Range) (unit : TextUnit) (text : List ℕ) → planned beside range unit (Encoded text) ≡ planned d range unit (Encoded text)
  unfolding planned replacing
  planned-as range unit text = grind (arith, put-as (decoded d).encoding)

  carried-as : (text : List ℕ) (r : Result Plan ChangeFault) → carried_out beside text r ≡ with_earlier e (carried_out d text r)
  carried-as text r = grind arith

  changed-as : (unit : TextUnit) (range : Option Range) (text : List ℕ) → changed unit range text beside ≡ with_earlier e (changed unit range text d)
  changed-as unit range text = ap (carried_out beside (chars text)) (planned-as range unit (chars text))
      ∙ carried-as (chars text) (planned d range unit (Encoded (chars text)))

then-as : (e : Option (List ℕ)) (made : MadeChanges) (n : ℕ) (rest : MadeChanges → Document → Result (Applied MadeChanges) Fault)
    → ((more : MadeChanges) (d : Document) → rest more (record d { earlier = e }) ≡ with_earlier e (rest more d))
    → (r : Result (Applied Plan) ChangeCause) → then_rest made n rest (with_earlier e r) ≡ with_earlier e (then_rest made n rest r)
then-as e made n rest same (Ok x) = same (one_more made n x.done) x.document
then-as e made n rest same (Err cause) = refl

all-as : (unit : TextUnit) (made : MadeChanges) (cs : List TextChange) (d : Document) (e : Option (List ℕ))
    → changed_all unit made cs (record d { earlier = e }) ≡ with_earlier e (changed_all unit made cs d)
all-as unit made [] d e = refl
all-as unit made (c ∷ cs) d e =
    ap (then_rest made (length d.bytes) (λ more. changed_all unit more cs)) (changed-as d e unit c.range c.text)
    ∙ then-as e made (length d.bytes) (λ more. changed_all unit more cs) (λ more x. all-as unit more cs x e) (changed unit c.range c.text d)

-- a document in no edit of several parts is what is held of it
pub idle-document : (indexes : Files) (d : Document) → d.indexes ≡ indexes → d.earlier ≡ None → document indexes d.setting d.bytes ≡ d
idle-document indexes d files idle = rw (← files, ← idle) refl

-- a list that was started leaves, or is refused, as one that wasn't
module _ (unit : TextUnit) (cs : List TextChange) (old : Document) (idle : old.earlier ≡ None) where
  begun-all : changed_from_none unit cs old ≡ with_earlier None (changed_from_none unit cs (begun old))
  begun-all = ap (changed_from_none unit cs) (sym (idle-document old.indexes old refl idle)) ∙ all-as unit (none_made (length old.bytes)) cs (begun old) None

  pub list-made : (new : Document) (made : MadeChanges) → changed_from_none unit cs (begun old) ≡ Ok (record { document = new; done = made })
      → changed_from_none unit cs old ≡ Ok (record { document = settled new; done = made })
  list-made new made e = begun-all ∙ ap (with_earlier None) e

  pub list-refused : (fault : Fault) (left back d : Document) (ts : List TextChange) → ts ≡ cs → d ≡ begun old
      → Applies (changed_from_none unit ts d) (Err fault) left → Applies (changed_from_none unit cs old) (Err fault) back
  list-refused OutOfMemory left back d ts same is a = tt
  list-refused fault left back d ts same is a = begun-all ∙ ap (with_earlier None) (rw (same, is) at a)

pub only-bytes-on : (a b c : Document) → OnlyBytes a b → OnlyBytes b c → OnlyBytes a c
only-bytes-on a b c ab bc = bc ∙ ap (λ (x : Document). record x { bytes = c.bytes }) ab
