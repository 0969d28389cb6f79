-- A document's errors with their positions.
use Rattle.std.specs.Prelude.{ℕ, List, length, take, drop, Result}
use Rattle.index_loader.specs.Files.{Files}
use Rattle.piece_rope.specs.{Document.Document, Document.errors_of, Edits.errors_fault}
use Rattle.position_map.specs.Diagnostics.{diagnostics_of, errors_before_line}
use Rattle.position_map.specs.declared.{diagnostic.Diagnostic.Diagnostic, unit.Unit.Unit as TextUnit}
use Rattle.desk.specs.{Documents.Entry, Documents.document_of, Documents.unless, declared.fault.Fault.Fault}
use Rattle.desk.specs.declared.page_start.PageStart.{PageStart, TheVariants.Number, TheVariants.Line}
use Rattle.desk.specs.declared.ops.Reply.{Reply, TheVariants.Diagnostics}

-- the number of the first error of a page
abbrev pub first_error : Document → PageStart → ℕ
first_error d (Number n) = n
first_error d (Line line) = errors_before_line d line

-- at most max errors, the first being number `from`
abbrev pub diagnostics_page : Document → TextUnit → ℕ → ℕ → List Diagnostic
diagnostics_page d unit from max = take max (drop from (diagnostics_of d unit))

abbrev pub diagnostics_reply : Files → Entry → PageStart → ℕ → TextUnit → Result Reply Fault
diagnostics_reply indexes h start max unit =
    let d = document_of indexes h in
    let from = first_error d start in
    unless (errors_fault d from) (Diagnostics (record { rev = h.revision; total = length (errors_of d); diagnostics = diagnostics_page d unit from max }))
