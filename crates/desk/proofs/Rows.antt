-- The rows of the desk's table, and what follows from them for each command.
use Rattle.desk.proofs.Prelude.{◌≡◌, false, refl, sym, ap, ◌∙◌, get, LabelTable, Files, reports_change, OnlyChangesChange, RefusalsChangeNothing}
use Rattle.desk.proofs.Prelude.{MemoryIsNeverWanted, Ask, Asked, Office, Outcome, Answers, IsOutcome, has_place, moved, answer_of, OutOfMemory, Reply, Refused}
use Rattle.std.proofs.Common.{ℕ, if◌then◌else◌}
use Rattle.desk.specs.{Desk.Decides, Turn.next_turn, Turn.turn_after}
use Rattle.desk.specs.Commands as commands
use Rattle.desk.proofs.{Questions.decided, Row.IsRow, Row.question}

pub row : (indexes : Files) (labels : LabelTable) (ask : Ask) → IsRow indexes labels ask
row indexes labels (commands.Open label bytes bom) = Rattle.desk.proofs.Open.row indexes labels label bytes bom
row indexes labels commands.Close = Rattle.desk.proofs.Close.row indexes labels
row indexes labels (commands.Splice rev at del bytes) = Rattle.desk.proofs.Splice.row indexes labels rev at del bytes
row indexes labels (commands.Change rev unit range text) = Rattle.desk.proofs.Change.row indexes labels rev unit range text
row indexes labels (commands.Changes rev unit cs) = Rattle.desk.proofs.Changes.row indexes labels rev unit cs
row indexes labels (commands.Replace rev unit range text bytes) = Rattle.desk.proofs.Replace.row indexes labels rev unit range text bytes
row indexes labels (commands.Asks q) = question indexes labels q (λ h. decided indexes labels h q)

-- ---- what changes nothing

pub only_changes_change : OnlyChangesChange
only_changes_change o c e = ap (moved o.documents c.doc) ((row o.indexes o.labels c.ask).keeps (has_place o.documents) (get o.documents c.doc) e)

pub law_refusals_change_nothing : RefusalsChangeNothing
law_refusals_change_nothing o c fault e = only_changes_change o c (ap reports_change e)

pub memory_is_never_wanted : MemoryIsNeverWanted
memory_is_never_wanted o c = (row o.indexes o.labels c.ask).answered (has_place o.documents) (get o.documents c.doc)

-- ---- one step of a desk

kept_documents : (o p : Office) (c : Asked) (reply : Reply) → IsOutcome (answer_of o c) reply o.documents p.documents
    → reports_change reply ≡ false → p.documents ≡ o.documents
kept_documents o p c (Refused OutOfMemory) step e = step
kept_documents o p c reply step e = sym (ap (λ (x : Outcome). x.documents) step)
    ∙ only_changes_change o c (ap (λ (x : Outcome). reports_change x.reply) step ∙ e)

-- a step whose reply reports no change leaves the desk as it was
pub kept_office : (o p : Office) (c : Asked) (reply : Reply) → Answers o c reply p → reports_change reply ≡ false → p ≡ o
kept_office o p c reply a e =
    let counted : p.turn ≡ o.turn = a.turn ∙ ap (λ b. if b then next_turn o.turn else o.turn) e in
    let same : record { indexes = p.indexes; labels = p.labels; documents = p.documents; turn = p.turn } ≡ o =
    rw (a.indexes, a.labels, kept_documents o p c reply a.step e, counted) refl in same

-- and so does what was decided, and then counted
pub kept_counted : (o mid p : Office) (c : Asked) (reply : Reply) (turn : ℕ) → Decides o c reply mid → turn ≡ turn_after mid.turn reply
    → p ≡ record mid { turn = turn } → reports_change reply ≡ false → p ≡ o
kept_counted o mid p c reply turn d t is e =
    let answers : Answers o c reply (record mid { turn = turn }) =
    record { step = d.step; indexes = d.indexes; labels = d.labels; turn = t ∙ ap (λ n. turn_after n reply) d.turn } in
    is ∙ kept_office o (record mid { turn = turn }) c reply answers e
