-- Where lives of a document begin and end.
use Rattle.desk.specs.Commands as commands
use Rattle.desk.proofs.Prelude.{◌≡◌, ℕ, Bool, true, cond, List, Some, None, Ok, Option, refl, ap, ◌∙◌, arith, bytes_eq-Decides, nat_list_cmp_total, get}
use Rattle.desk.proofs.Prelude.{lookup_in, setting_of, Bom, Encoding, Setting, Files, is_accepted, closed, asked_of, Asked, Office, Answers, has_place}
use Rattle.desk.proofs.Prelude.{effect_of, Entry, entry, edit_reply, of_document, Move, put, with_bytes, base64_bytes, OpensBegin, AdoptionsBegin, ClosesEnd}
use Rattle.desk.proofs.Prelude.{admitted, adopted, opened, Reply}
use Rattle.std.specs.FinMap as finite
use Rattle.desk.proofs.{Moves.held_after, Moves.at_name, Moves.reply_is, Moves.held_is, Names.same_test}

-- what is held at the name of an accepted command
pub held_here : (o p : Office) (c : Asked) (reply : Reply) → Answers o c reply p → is_accepted reply ≡ true
    → get p.documents c.doc ≡ held_after (get o.documents c.doc) (effect_of o c).move
held_here o p c reply answers e =
    held_is o p c reply answers (λ is. cc) c.doc
    ∙ ap (λ b. at_name b (get o.documents c.doc) (effect_of o c).move) ((bytes_eq-Decides c.doc c.doc).1 refl)

pub accepted_here : (o p : Office) (c : Asked) (reply : Reply) → Answers o c reply p → is_accepted reply ≡ true → is_accepted (effect_of o c).reply ≡ true
accepted_here o p c reply answers e = ap is_accepted (reply_is o p c reply answers (λ is. cc)) ∙ e

-- ---- an open

-- a document that is admitted is the given one
admits : (reply : Entry → Reply) (indexes : Files) (place : Bool) (setting : Setting) (bytes : List ℕ) (rev : ℕ)
    → (let t = put reply (admitted indexes place setting bytes rev) in is_accepted t.reply ≡ true → held_after None t.move ≡ Some (entry setting bytes rev))
admits reply indexes place setting bytes rev = λ e. grind arith

-- an accepted open, as it is decided
record Opened (found : Option Entry) (read : Option (List ℕ)) (labelled : Option Encoding) (bom : Bom) (move : Move) : Type 0 where
  given : Encoding
  bytes : List ℕ
  free : found ≡ None
  label : labelled ≡ Some given
  text : read ≡ Some bytes
  begin : held_after found move ≡ Some (entry (setting_of given bom) bytes 0)

opened-by : (indexes : Files) (place : Bool) (found : Option Entry) (read : Option (List ℕ)) (labelled : Option Encoding) (bom : Bom)
    → (let t = with_bytes read (λ b. opened indexes place found b labelled bom) in is_accepted t.reply ≡ true → Opened found read labelled bom t.move)
opened-by indexes place found None labelled bom = λ e. cc
opened-by indexes place (Some h) (Some b) labelled bom = λ e. cc
opened-by indexes place None (Some b) None bom = λ e. cc
opened-by indexes place None (Some b) (Some given) bom = λ e.
    record { given = given; bytes = b; free = refl; label = refl; text = refl; begin = admits (edit_reply indexes) indexes place (setting_of given bom) b 0 e }

pub opens_begin : OpensBegin
opens_begin o p doc label text bom reply answers e =
    let c = asked_of doc (commands.Open label text bom) in
    let by = opened-by o.indexes (has_place o.documents) (get o.documents doc) (base64_bytes text) (lookup_in o.labels label) bom
    (accepted_here o p c reply answers e) in record {
      given = by.given;
      bytes = by.bytes;
      free = by.free;
      labelled = by.label;
      read = by.text;
      begin = held_here o p c reply answers e ∙ by.begin;
    }

-- ---- an adoption

adopts-ok : (indexes : Files) (place : Bool) (found : Option Entry) (setting : Setting) (bytes : List ℕ) (rev : ℕ) (k : Entry)
    → adopted indexes place found setting bytes rev ≡ Ok k → (found ≡ None) × (k ≡ entry setting bytes rev)
adopts-ok indexes place found setting bytes rev k e = (grind arith, grind arith)

pub adoptions_begin : AdoptionsBegin
adoptions_begin o p name setting bytes rev adopts =
    let k = adopts.step.0 in
    let ok = adopts-ok o.indexes (has_place o.documents) (get o.documents name) setting bytes rev k adopts.step.1 in (
      ok.0,
      ap (λ m. get m name) adopts.step.2 ∙ finite.get-insert nat_list_cmp_total o.documents name k name
          ∙ ap (λ b. cond b (Some k) (get o.documents name)) (same_test name name ∙ (bytes_eq-Decides name name).1 refl) ∙ ap Some ok.1,
    )

-- ---- a close

closed-by : (found : Option Entry) → is_accepted (of_document found closed).reply ≡ true → held_after found (of_document found closed).move ≡ None
closed-by None e = cc
closed-by (Some h) e = refl

pub closes_end : ClosesEnd
closes_end o p doc reply answers e =
    let c = asked_of doc commands.Close in
    held_here o p c reply answers e ∙ closed-by (get o.documents doc) (accepted_here o p c reply answers e)
