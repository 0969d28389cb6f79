-- The places of a document's errors.
use Rattle.std.specs.Prelude.{ℕ, length, take, drop, Result}
use Rattle.index_loader.specs.Files.{Files}
use Rattle.piece_rope.specs.{Document.errors_of, Edits.errors_fault}
use Rattle.desk.specs.Documents.{Entry, document_of, unless}
use Rattle.desk.specs.declared.{fault.Fault.Fault, ops.Reply.Reply, ops.Reply.TheVariants.Errors}

-- at most max places of errors, the first being number `from`
abbrev pub errors_reply : Files → Entry → ℕ → ℕ → Result Reply Fault
errors_reply indexes h from max =
    let d = document_of indexes h in
    unless (errors_fault d from) (Errors (record { rev = h.revision; total = length (errors_of d); places = take max (drop from (errors_of d)) }))
