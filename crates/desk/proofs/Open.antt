-- The row of the op `open`, its steps, and those of an adoption.
use Rattle.desk.specs.Commands as commands
use Rattle.desk.proofs.Prelude.{◌≡◌, ℕ, Bool, true, false, List, is_some, Some, None, Ok, Err, Option, Result, sym, refl, ap, ◌∙◌, LabelTable, lookup_in, arith}
use Rattle.desk.proofs.Prelude.{setting_of, Bom, Encoding, Setting, Files, has_files, open_fault, is_accepted, Office, Outcome, IsOutcome, has_place, outcome}
use Rattle.desk.proofs.Prelude.{Adopts, Entry, Names, edit_reply, put, with_bytes, base64_bytes, done, admitted, opened, Shelf, Fault, Reply, Refused, ◌<◌}
use Rattle.desk.proofs.Prelude.{rules, DocFault, named, fault_of, Gives, unless, entry}
use Rattle.desk.specs.{Desk.max_documents, declared.ops.Reply.TheVariants.Edited, declared.reply.EditedReply.EditedReply}
use Rattle.std.specs.FinMap as finite
use Rattle.desk.proofs.Row.{IsRow, Keeps, Answered, ContinuesBy, Decided, IsOther, Caused, decided-if, decided-unless, by-bytes, keeps-put, answered-put}

-- ---- a document that is put under a free name

pub unopened : (fault : Option DocFault) (h : Entry) (cause : DocFault) → fault ≡ named cause → Gives (unless fault h) (Err (fault_of cause))
unopened fault h DocFault.OutOfMemory e = tt
unopened fault h cause e = rw e refl

pub with_document : (indexes : Files) (old new : Names) (name : List ℕ) (setting : Setting) (bytes : List ℕ) (rev : ℕ) (h : Entry) (r : EditedReply)
    → has_files indexes setting.given ≡ true → finite.len old < max_documents
    → Gives (unless (open_fault indexes setting.given bytes) (entry setting bytes rev)) (Ok h) → Edited r ≡ edit_reply indexes h
    → new ≡ finite.insert old name h
    → IsOutcome (outcome old name (put (edit_reply indexes) (admitted indexes (has_place old) setting bytes rev))) (Edited r) old new
with_document indexes old new name setting bytes rev h r files free gives replies puts =
    let room : has_place old ≡ true = search (rules, free) in
    rw (puts, files, room, gives, replies) refl

-- ---- adoptions

abbrev Admits : Files → Names → Names → List ℕ → Result Entry Fault → Reply → Type 0
Admits indexes old new name change reply = IsOutcome (outcome old name (put (edit_reply indexes) change)) reply old new

admitted-ok : (indexes : Files) (old new : Names) (name : List ℕ) (change : Result Entry Fault) (reply : Reply)
    → Admits indexes old new name change reply → is_accepted reply ≡ true → (h : Entry) × (change ≡ Ok h) × (new ≡ finite.insert old name h)
admitted-ok indexes old new name (Ok h) (Refused f) step is = cc
admitted-ok indexes old new name (Ok h) reply step is = (h, refl, sym (ap (λ (x : Outcome). x.documents) step))
admitted-ok indexes old new name (Err f) (Refused g) step is = cc
admitted-ok indexes old new name (Err f) reply step is =
    let never : false ≡ true = ap (λ (x : Outcome). is_accepted x.reply) step ∙ is in cc

pub adopted_answers : (o : Office) (after : Shelf) (name : List ℕ) (made setting : Setting) (bytes : List ℕ) (rev : ℕ) (reply : Reply)
    → made ≡ setting → is_some (finite.get o.documents name) ≡ false
    → Admits o.indexes o.documents after.named name (admitted o.indexes (has_place o.documents) made bytes rev) reply
    → is_accepted reply ≡ true → after.indexes ≡ o.indexes
    → Adopts o name setting bytes rev done (record { indexes = after.indexes; labels = o.labels; documents = after.named; turn = o.turn })
adopted_answers o after name made setting bytes rev reply made_is free step is indexes =
    let ok = admitted-ok o.indexes o.documents after.named name (admitted o.indexes (has_place o.documents) setting bytes rev) reply
    (rw made_is at step) is in record {
      step = (ok.0, rw free ok.1, ok.2);
      indexes = indexes;
      labels = refl;
      turn = refl;
    }

-- ---- the row

caused-open : (indexes : Files) (given : Encoding) (bytes : List ℕ) → Caused (open_fault indexes given bytes)
unfolding open_fault
caused-open indexes given bytes = λ e. grind arith

decided-admitted : (indexes : Files) (place : Bool) (setting : Setting) (bytes : List ℕ)
    → Decided (λ k. IsOther (edit_reply indexes k)) (admitted indexes place setting bytes 0)
decided-admitted indexes place setting bytes =
    let P : Entry → Type 0 = λ k. IsOther (edit_reply indexes k) in
    decided-if P (has_files indexes setting.given) _ _
    (decided-if P place _ _ (decided-unless P (open_fault indexes setting.given bytes) _ (caused-open indexes setting.given bytes) (λ e. cc)) tt)
    tt

keeps-opened : (indexes : Files) (place : Bool) (found : Option Entry) (bytes : List ℕ) (given : Option Encoding) (bom : Bom)
    → Keeps (opened indexes place found bytes given bom)
keeps-opened indexes place (Some h) bytes given bom = λ e. refl
keeps-opened indexes place None bytes None bom = λ e. refl
keeps-opened indexes place None bytes (Some given) bom = keeps-put (edit_reply indexes) (admitted indexes place (setting_of given bom) bytes 0) (λ k. refl)

answered-opened : (indexes : Files) (place : Bool) (found : Option Entry) (bytes : List ℕ) (given : Option Encoding) (bom : Bom)
    → Answered (opened indexes place found bytes given bom)
answered-opened indexes place (Some h) bytes given bom = λ e. cc
answered-opened indexes place None bytes None bom = λ e. cc
answered-opened indexes place None bytes (Some given) bom =
    answered-put (edit_reply indexes) (admitted indexes place (setting_of given bom) bytes 0) (decided-admitted indexes place (setting_of given bom) bytes)

continues-opened : (indexes : Files) (place : Bool) (h : Entry) (label text : List ℕ) (bytes : Option (List ℕ)) (given : Option Encoding) (bom : Bom)
    → ContinuesBy indexes h (commands.Open label text bom) (with_bytes bytes (λ b. opened indexes place (Some h) b given bom))
continues-opened indexes place h label text None given bom = refl
continues-opened indexes place h label text (Some b) given bom = refl

pub row : (indexes : Files) (labels : LabelTable) (label text : List ℕ) (bom : Bom) → IsRow indexes labels (commands.Open label text bom)
row indexes labels label text bom = record {
  keeps = λ place found. by-bytes Keeps (base64_bytes text) _ (λ e. refl) (λ b. keeps-opened indexes place found b (lookup_in labels label) bom);
  answered = λ place found. by-bytes Answered (base64_bytes text) _ (λ e. cc) (λ b.
      answered-opened indexes place found b (lookup_in labels label) bom);
  continues = λ place h. continues-opened indexes place h label text (base64_bytes text) (lookup_in labels label) bom;
  placed = λ o found. refl;
}
