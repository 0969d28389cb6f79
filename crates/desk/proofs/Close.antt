-- The row of the op `close`, and its steps.
use Rattle.std.proofs.Common.{◌≡◌, ℕ, List, refl, sym, ap, subst, Some, None}
use Rattle.desk.specs.Commands as commands
use Rattle.desk.proofs.Prelude.{lookup, LabelTable, Files, closed, OpenDocument, Reply, Closed}
use Rattle.desk.proofs.Edits.{Step, there}
use Rattle.desk.proofs.{Names.at_text, Names.names_removed, Names.Map, Names.Updates, Row.IsRow, Row.Keeps, Row.Answered, Row.by-document}

-- a document that is closed
pub closed_answers : (old new : Map) (doc : List ℕ) (k : OpenDocument) (reply : Reply) → Some k ≡ lookup (at_text doc) old.entries
    → Updates doc old new None → reply ≡ Closed k.revision → Step old new doc closed reply
closed_answers old new doc k reply some updates is =
    subst (Step old new doc closed) (sym is)
    (there old new doc closed k (Closed k.revision) some
    (ap (λ n. record { reply = Closed k.revision; documents = n }) (sym (names_removed doc old new updates))))

pub row : (indexes : Files) (labels : LabelTable) → IsRow indexes labels commands.Close
row indexes labels = record {
  keeps = λ place found. by-document Keeps found closed (λ e. refl) (λ h e. cc);
  answered = λ place found. by-document Answered found closed (λ e. cc) (λ h e. cc);
  continues = λ place h. refl;
  placed = λ o found. refl;
}
