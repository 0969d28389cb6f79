use Rattle.desk.proofs.Prelude.{◌≡◌, ℕ, List, Some, Ok, Err, Result, refl, ap, subst, lookup, Files, IsOutcome, outcome, Entry, Names, Gives, reply_of}
use Rattle.desk.proofs.Prelude.{replied, AllOpened, entry_of, names, Fault, OutOfMemory, OpenDocument, Reply, Refused}
use Rattle.desk.{specs.Commands.answer, proofs.Edits.Step, proofs.Edits.nowhere, proofs.Edits.there}
use Rattle.desk.proofs.Names.{Map, at_text, opened_found}
use Rattle.desk.proofs.documents.Documents.ask.Goals as goal

replied_outcome : (documents : Names) (doc : List ℕ) (wanted answer : Result Reply Fault) → Gives wanted answer
    → IsOutcome (outcome documents doc (replied wanted)) (reply_of answer) documents documents
replied_outcome documents doc wanted (Ok (Refused OutOfMemory)) gives = refl
replied_outcome documents doc wanted (Err OutOfMemory) gives = refl
replied_outcome documents doc wanted answer gives = ap (λ w. outcome documents doc (replied w)) gives

-- the document k answers
asked : (held : Map) (doc : List ℕ) (indexes : Files) (answer : Files → Entry → Result Reply Fault) (k : OpenDocument) (result : Result Reply Fault)
    → AllOpened indexes held.entries → Some k ≡ lookup (at_text doc) held.entries → Gives (answer k.document.indexes (entry_of k)) result
    → Step held held doc (λ h. replied (answer indexes h)) (reply_of result)
asked held doc indexes answer k result all some gives =
    there held held doc (λ h. replied (answer indexes h)) k (reply_of result) some
    (replied_outcome (names held.entries) doc (answer indexes (entry_of k)) result
    (subst (λ (files : Files). Gives (answer files (entry_of k)) result) (opened_found indexes doc held.entries k all some).idle.files gives))

pub returns-in-Some : goal.returns-in-Some
returns-in-Some g c = rw (← c.self.view_is)
    (asked c.self.inside.named c.args.name.now c.self.inside.indexes.now
    (λ indexes h. answer indexes c.args.labels.now h (g.Q.Question.asked c.args.question.now))
    c.in-Some.found.now c.ask.result c.self.invariant.0 c.in-Some.ensures.value c.ask.ensures)

pub returns-in-None : goal.returns-in-None
returns-in-None g c = rw (← c.self.view_is)
    (nowhere c.self.inside.named c.self.inside.named c.args.name.now
    (λ h. replied (answer c.self.inside.indexes.now c.args.labels.now h (g.Q.Question.asked c.args.question.now))) c.in-None.ensures.value refl)
