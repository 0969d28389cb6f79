-- Splicing a document.
use Rattle.std.specs.Prelude.{ℕ, List, length, Result}
use Rattle.index_loader.specs.Files.{Files}
use Rattle.piece_rope.specs.{Document.Document, Edits.splice_fault, Edits.spliced_document}
use Rattle.desk.specs.{Documents.Entry, Documents.edited_reply, Documents.unless, Edits.Applied, Edits.edited}
use Rattle.desk.specs.{Effects.Effect, Log.untouched_by, declared.fault.Fault.Fault, declared.ops.Reply.Reply, declared.untouched.Untouched.Untouched}

-- the given bytes, which replace the `del` bytes at `at`, unless these don't exist or the document would be too large
abbrev pub spliced : ℕ → ℕ → List ℕ → Document → Result (Applied (Unit {0})) Fault
spliced at del ins d = unless (splice_fault d.bytes at del ins) (record { document = spliced_document d at del ins; done = tt })

abbrev pub splice_leaves : ℕ → ℕ → List ℕ → Unit {0} → ℕ → Untouched
splice_leaves at del ins done n = untouched_by at del (length ins) n

abbrev pub splice_reply : Unit {0} → Document → ℕ → Reply
splice_reply done d rev = edited_reply d rev

abbrev pub splice_effect : Files → ℕ → ℕ → ℕ → List ℕ → Entry → Effect
splice_effect indexes rev at del ins = edited indexes rev (spliced at del ins) (splice_leaves at del ins) splice_reply
