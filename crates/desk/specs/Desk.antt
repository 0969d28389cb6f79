-- The desk: named documents, and what one command answers and leaves.
use Rattle.std.specs.Prelude.{◌≡◌, ℕ, nat_lt, List, Bool, Option, Result, Ok, Err}
use Rattle.std.specs.FinMap.{get, insert, remove, len}
use Rattle.enc_names.specs.{declared.setting.Setting.Setting, Labels.LabelTable, Labels.lookup_in}
use Rattle.index_loader.specs.Files.{Files}
use Rattle.desk.specs.Commands.{Ask, Asked, Open, Close, Splice, Change, Changes, Replace, Asks, answer}
use Rattle.desk.specs.Documents.{Entry, Names}
use Rattle.desk.specs.Effects.{Move, Stays, Puts, Goes, Effect, replied, of_document, base64_bytes, with_bytes}
use Rattle.desk.specs.{Open.opened, Open.adopted, Close.closed, Splice.splice_effect, Change.change_effect, Changes.changes_effect, Turn.turn_after}
use Rattle.desk.specs.Replace.{replace_effect}
use Rattle.desk.specs.declared.{fault.Fault.Fault, fault.Fault.TheVariants.OutOfMemory, ops.Reply.Reply, ops.Reply.TheVariants.Refused}

-- the loaded index files and labels, the documents, and how many opens, edits and closes of them were accepted
pub record Office : Type 0 where
  pub indexes : Files
  pub labels : LabelTable
  pub documents : Names
  pub turn : ℕ

-- how many documents may be open
abbrev pub max_documents : ℕ
max_documents = 64

-- there is a place for one more document
abbrev pub has_place : Names → Bool
has_place documents = nat_lt (len documents) max_documents

-- What is asked, by the index files and labels, whether there is a place for one more document, and the entry found at the name.
abbrev pub effect : Files → LabelTable → Bool → Option Entry → Ask → Effect
effect indexes labels place found (Open label bytes bom) = with_bytes (base64_bytes bytes) (λ b. opened indexes place found b (lookup_in labels label) bom)
effect indexes labels place found Close = of_document found closed
effect indexes labels place found (Splice rev at del bytes) = with_bytes (base64_bytes bytes) (λ ins. of_document found (splice_effect indexes rev at del ins))
effect indexes labels place found (Change rev unit range text) = of_document found (change_effect indexes rev unit range text)
effect indexes labels place found (Changes rev unit changes) = of_document found (changes_effect indexes rev unit changes)
effect indexes labels place found (Replace rev unit range text bytes) =
    with_bytes (base64_bytes bytes) (λ ins. of_document found (replace_effect indexes rev unit range text ins))
effect indexes labels place found (Asks q) = of_document found (λ h. replied (answer indexes labels h q))

-- ---- what a command answers and leaves

-- a reply, and the documents after it
pub record Outcome : Type 0 where
  pub reply : Reply
  pub documents : Names

abbrev pub moved : Names → List ℕ → Move → Names
moved documents doc Stays = documents
moved documents doc (Puts h) = insert documents doc h
moved documents doc Goes = remove documents doc

-- an effect at a name
abbrev pub outcome : Names → List ℕ → Effect → Outcome
outcome documents doc e = record { reply = e.reply; documents = moved documents doc e.move }

abbrev pub effect_of : Office → Asked → Effect
effect_of o c = effect o.indexes o.labels (has_place o.documents) (get o.documents c.doc) c.ask

abbrev pub answer_of : Office → Asked → Outcome
answer_of o c = outcome o.documents c.doc (effect_of o c)

-- ---- one step

-- The reply and the documents after it are those of the outcome; or memory ran out, and nothing changed.
abbrev pub IsOutcome : Outcome → Reply → Names → Names → Type 0
IsOutcome outcome (Refused OutOfMemory) old new = new ≡ old
IsOutcome outcome reply old new = outcome ≡ record { reply = reply; documents = new }

-- what is decided of a command, before it is counted
pub record Decides (old : Office) (command : Asked) (reply : Reply) (new : Office) : Type 0 where
  pub step : IsOutcome (answer_of old command) reply old.documents new.documents
  pub indexes : new.indexes ≡ old.indexes
  pub labels : new.labels ≡ old.labels
  pub turn : new.turn ≡ old.turn

-- one step of the desk
pub record Answers (old : Office) (command : Asked) (reply : Reply) (new : Office) : Type 0 where
  pub step : IsOutcome (answer_of old command) reply old.documents new.documents
  pub indexes : new.indexes ≡ old.indexes
  pub labels : new.labels ≡ old.labels
  pub turn : new.turn ≡ turn_after old.turn reply

-- ---- adopting

-- the document taken over is put at the name, or refused; or memory ran out, and nothing changed
abbrev pub IsAdopted : Result Entry Fault → List ℕ → {A : Type 0} → Result A Fault → Names → Names → Type 0
IsAdopted wanted name (Ok x) old new = (h : Entry) × (wanted ≡ Ok h) × (new ≡ insert old name h)
IsAdopted wanted name (Err OutOfMemory) old new = new ≡ old
IsAdopted wanted name (Err fault) old new = (wanted ≡ Err fault) × (new ≡ old)

-- a document is adopted, or refused; that isn't counted
pub record Adopts (old : Office) (name : List ℕ) (setting : Setting) (bytes : List ℕ) (rev : ℕ) {A : Type 0} (answer : Result A Fault)
    (new : Office) : Type 0 where
  pub step : IsAdopted (adopted old.indexes (has_place old.documents) (get old.documents name) setting bytes rev) name answer old.documents new.documents
  pub indexes : new.indexes ≡ old.indexes
  pub labels : new.labels ≡ old.labels
  pub turn : new.turn ≡ old.turn
