-- What the edits of a document have in common: what each does to a document without a name, and under which revision it does so.
use Rattle.std.specs.Prelude.{◌≡◌, ℕ, ◌+◌, ◌==◌, length, nat_lt, if◌then◌else◌, Result, Ok, Err}
use Rattle.index_loader.specs.Files.{Files}
use Rattle.piece_rope.specs.Document.{Document}
use Rattle.desk.specs.{Documents.Entry, Documents.document_of, Documents.max_number, Effects.Effect, Effects.Puts, Effects.refused, Log.logged}
use Rattle.desk.specs.declared.fault.Fault.{Fault, TheVariants.Stale, TheVariants.RevisionsSpent, TheVariants.OutOfMemory}
use Rattle.desk.specs.declared.{ops.Reply.Reply, untouched.Untouched.Untouched}

-- the document that an edit leaves, and what the edit did
pub record Applied (A : Type 0) : Type 0 where
  pub document : Document
  pub done : A

-- an edit names the revision now, and the revision can be raised
abbrev pub at_revision : {A : Type 0} → Entry → ℕ → Result A Fault → Result A Fault
at_revision h rev answer =
    if rev == h.revision
    then (if nat_lt h.revision max_number then answer else Err RevisionsSpent)
    else Err (Stale h.revision)

-- only the bytes of a document differ
abbrev pub OnlyBytes : Document → Document → Type 0
OnlyBytes old new = new ≡ record old { bytes = new.bytes }

-- the document that an edit left, at the next revision, and what the edit left of the bytes before
abbrev pub raised : Entry → Document → Untouched → Entry
raised h d u = record { setting = d.setting; bytes = d.bytes; revision = h.revision + 1; log = logged h.log u }

-- It is put, with the reply to the edit, or the edit is refused. `leaves` says what was left of the bytes before, by their number.
abbrev pub put_applied : {A : Type 0} → Entry → (A → ℕ → Untouched) → (A → Document → ℕ → Reply) → Result (Applied A) Fault → Effect
put_applied h leaves reply (Ok x) =
    record { reply = reply x.done x.document (h.revision + 1); move = Puts (raised h x.document (leaves x.done (length h.bytes))) }
put_applied h leaves reply (Err fault) = refused fault

-- an edit that names this revision, by what it does to a document
abbrev pub edited : {A : Type 0} → Files → ℕ → (Document → Result (Applied A) Fault) → (A → ℕ → Untouched) → (A → Document → ℕ → Reply) → Entry → Effect
edited indexes rev apply leaves reply h = put_applied h leaves reply (at_revision h rev (apply (document_of indexes h)))

-- ---- what the code answers

-- The edit left this document and did this, or is refused; or memory ran out.
abbrev pub Applies : {A : Type 0} → Result (Applied A) Fault → Result A Fault → Document → Type 0
Applies applied (Ok done) d = applied ≡ Ok (record { document = d; done = done })
Applies applied (Err OutOfMemory) d = Unit {0}
Applies applied (Err fault) d = applied ≡ Err fault

-- The effect is this entry with the reply, or a refusal; or memory ran out.
abbrev pub Makes : Effect → Result Reply Fault → Entry → Type 0
Makes effect (Ok reply) h = effect ≡ record { reply = reply; move = Puts h }
Makes effect (Err OutOfMemory) h = Unit {0}
Makes effect (Err fault) h = effect ≡ refused fault
