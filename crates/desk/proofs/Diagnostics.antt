-- The answer of the op `diagnostics`.
use Rattle.desk.proofs.Prelude.{◌≡◌, ℕ, ◌<◌, ◌≤◌, length, Ok, Err, refl, ◌∙◌, arith, nat_tests, errors_of, errors_fault}
use Rattle.desk.proofs.Prelude.{number_fault, diagnostics_of, errors_before_line, TextUnit, diagnostics_page, diagnostics_reply}
use Rattle.desk.proofs.Prelude.{first_error, unless, entry_of, OutOfRange, OpenDocument, Reply, Diagnostics}
use Rattle.desk.specs.declared.page_start.PageStart.{PageStart}

-- the reply that has the page that begins at this error
abbrev paged : OpenDocument → ℕ → ℕ → TextUnit → Reply
paged k from max unit =
    Diagnostics (record { rev = k.revision; total = length (errors_of k.document); diagnostics = diagnostics_page k.document unit from max })

-- what is answered doesn't depend on the bytes that the document can come back to
answered : (k : OpenDocument) (start : PageStart) (max : ℕ) (unit : TextUnit) → diagnostics_reply k.document.indexes (entry_of k) start max unit
    ≡ unless (errors_fault k.document (first_error k.document start)) (paged k (first_error k.document start) max unit)
unfolding diagnostics_of errors_before_line
answered k (PageStart.Number n) max unit = refl
answered k (PageStart.Line line) max unit = refl

pub answered_past : (k : OpenDocument) (start : PageStart) (max : ℕ) (unit : TextUnit) → length (errors_of k.document) < first_error k.document start
    → diagnostics_reply k.document.indexes (entry_of k) start max unit ≡ Err OutOfRange
unfolding number_fault
answered_past k start max unit more = answered k start max unit ∙ grind (arith, nat_tests)

pub answered_within : (k : OpenDocument) (start : PageStart) (max : ℕ) (unit : TextUnit) → first_error k.document start ≤ length (errors_of k.document)
    → diagnostics_reply k.document.indexes (entry_of k) start max unit ≡ Ok (paged k (first_error k.document start) max unit)
unfolding number_fault
answered_within k start max unit few = answered k start max unit ∙ grind (arith, nat_tests)
