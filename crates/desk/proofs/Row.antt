-- What the laws of the desk need of each row of its table, and the forms that rows have.
use Rattle.std.proofs.Common.{◌≡◌, ◌≢◌, ℕ, ◌&&◌, Bool, true, false, List, [], ◌∷◌, if◌then◌else◌, refl, Some, None, Ok, Err}
use Rattle.desk.proofs.Prelude.{Option, Result, LabelTable, Files, DocFault, PosFault, is_accepted, reports_change, place_at, Ask, Office, effect}
use Rattle.desk.proofs.Prelude.{has_place, Entry, unless_fault, unless_position_fault, Effect, of_document, replied, Move, put, with_bytes}
use Rattle.desk.specs.Commands.{Asks}
use Rattle.desk.proofs.Prelude.{Question, answer, Puts, Stays, Goes, is_edit, is_close, IsLife, Fault, OutOfMemory, Reply, Refused, refused}

-- what reports no change leaves the entry
abbrev pub Keeps : Effect → Type 0
Keeps e = reports_change e.reply ≡ false → e.move ≡ Stays

-- memory isn't a cause of the definition's
abbrev pub Answered : Effect → Type 0
Answered e = e.reply ≢ Refused OutOfMemory

-- what becomes of the life of the document that is found
abbrev pub Continues : Files → Entry → Ask → Reply → Move → Type 0
Continues indexes h ask reply Stays = (is_edit ask && is_accepted reply) ≡ false
Continues indexes h ask reply (Puts k) = ((is_edit ask && is_accepted reply) ≡ true) × IsLife indexes h (ask ∷ []) k
Continues indexes h ask reply Goes = (is_close ask && is_accepted reply) ≡ true

abbrev pub ContinuesBy : Files → Entry → Ask → Effect → Type 0
ContinuesBy indexes h ask e = Continues indexes h ask e.reply e.move

-- a place that matters to no command except an open
abbrev pub known : Option Bool → Bool
known None = true
known (Some b) = b

-- one row of the table
pub record IsRow (indexes : Files) (labels : LabelTable) (ask : Ask) : Type 0 where
  pub keeps : (place : Bool) (found : Option Entry) → Keeps (effect indexes labels place found ask)
  pub answered : (place : Bool) (found : Option Entry) → Answered (effect indexes labels place found ask)
  pub continues : (place : Bool) (h : Entry) → ContinuesBy indexes h ask (effect indexes labels place (Some h) ask)
  pub placed : (o : Office) (found : Option Entry) → effect indexes labels (has_place o.documents) found ask
      ≡ effect indexes labels (known (place_at o ask)) found ask

-- ---- answers that memory doesn't refuse

abbrev pub Decided : {A : Type 0} → (A → Type 0) → Result A Fault → Type 0
Decided P (Ok x) = P x
Decided P (Err OutOfMemory) = ⊥
Decided P (Err fault) = Unit {0}

-- of a document's faults
abbrev pub Caused : Option DocFault → Type 0
Caused fault = fault ≡ Some DocFault.OutOfMemory → ⊥

pub decided-if : {A : Type 0} (P : A → Type 0) (b : Bool) (x y : Result A Fault) → Decided P x → Decided P y → Decided P (if b then x else y)
decided-if P true x y p q = p
decided-if P false x y p q = q

pub decided-unless : {A : Type 0} (P : A → Type 0) (fault : Option DocFault) (answer : Result A Fault) → Caused fault → Decided P answer
    → Decided P (unless_fault fault answer)
decided-unless P None answer p q = q
decided-unless P (Some DocFault.OutOfMemory) answer p q = p refl
decided-unless P (Some fault) answer p q = tt

-- a reply that is not OutOfMemory
abbrev pub IsOther : Reply → Type 0
IsOther reply = reply ≢ Refused OutOfMemory

pub answered-replied : (answer : Result Reply Fault) → Decided IsOther answer → Answered (replied answer)
answered-replied (Ok reply) p = p
answered-replied (Err OutOfMemory) p = absurd p
answered-replied (Err fault) p = λ e. cc

-- of a position's faults
pub decided-position : {A : Type 0} (reply : A → Reply) (answer : Result A PosFault) → ((x : A) → IsOther (reply x))
    → Decided IsOther (unless_position_fault reply answer)
decided-position reply (Ok x) p = p x
decided-position reply (Err PosFault.OutOfRange) p = tt
decided-position reply (Err PosFault.SplitsCharacter) p = tt

-- ---- forms of effects

pub by-document : (P : Effect → Type 0) (found : Option Entry) (ask : Entry → Effect) → P (refused Fault.NoDocument)
    → ((h : Entry) → P (ask h)) → P (of_document found ask)
by-document P None ask q p = q
by-document P (Some h) ask q p = p h

pub by-bytes : (P : Effect → Type 0) (bytes : Option (List ℕ)) (ask : List ℕ → Effect) → P (refused Fault.BadBase64)
    → ((b : List ℕ) → P (ask b)) → P (with_bytes bytes ask)
by-bytes P None ask q p = q
by-bytes P (Some b) ask q p = p b

-- ---- an entry put

pub keeps-put : (reply : Entry → Reply) (change : Result Entry Fault) → ((k : Entry) → reports_change (reply k) ≡ true) → Keeps (put reply change)
keeps-put reply (Ok h) p = λ e. cc (p h)
keeps-put reply (Err f) p = λ e. refl

pub answered-put : (reply : Entry → Reply) (change : Result Entry Fault) → Decided (λ k. IsOther (reply k)) change → Answered (put reply change)
answered-put reply (Ok h) p = p
answered-put reply (Err OutOfMemory) p = absurd p
answered-put reply (Err f) p = λ e. cc

-- ---- a question

-- a row that asks a question of an open document
pub question : (indexes : Files) (labels : LabelTable) (q : Question) → ((h : Entry) → Decided IsOther (answer indexes labels h q))
    → IsRow indexes labels (Asks q)
question indexes labels q decided = record {
  keeps = λ place found. by-document Keeps found _ (λ e. refl) (λ h e. refl);
  answered = λ place found. by-document Answered found _ (λ e. cc) (λ h. answered-replied (answer indexes labels h q) (decided h));
  continues = λ place h. refl;
  placed = λ o found. refl;
}
