-- The op `text` in mode fatal, which is asked before the text.
use Rattle.std.proofs.Common.{◌≡◌, ◌<◌, ◌≤◌, ℕ, true, false, nat_le, length, refl, arith, Some, None, Err, Option}
use Rattle.desk.proofs.Prelude.{nat_tests, Place, Files, text_of, range_fault, Entry, document_of, Fault, OutOfRange, Malformed, Reply}
use Rattle.desk.{specs.Text.in_mode, specs.Text.text_reply, specs.declared.text_mode.TextMode.TheVariants.Fatal}
use Rattle.piece_rope.specs.Document.{first_error}
use Rattle.std.proofs.Math.Bool.{and-false}

refused_in : (first : Option Place) (fault : Fault) → in_mode {A = Reply} Fatal first (Err fault) ≡ Err fault
refused_in None fault = refl
refused_in (Some place) fault = refl

pub ends_before : (indexes : Files) (h : Entry) (from to : ℕ) → to < from → text_reply indexes h from to Fatal ≡ Err OutOfRange
unfolding range_fault
ends_before indexes h from to less =
    let no : nat_le from to ≡ false = grind (arith, nat_tests) in
    rw no (refused_in (first_error (document_of indexes h)) OutOfRange)

pub ends_past : (indexes : Files) (h : Entry) (from to : ℕ) → length (text_of (document_of indexes h)) < to
    → text_reply indexes h from to Fatal ≡ Err OutOfRange
unfolding range_fault
ends_past indexes h from to less =
    let no : nat_le to (length (text_of (document_of indexes h))) ≡ false = grind (arith, nat_tests) in
    rw (no, and-false (nat_le from to)) (refused_in (first_error (document_of indexes h)) OutOfRange)

pub is_malformed : (indexes : Files) (h : Entry) (from to : ℕ) (place : Place) → from ≤ to → to ≤ length (text_of (document_of indexes h))
    → first_error (document_of indexes h) ≡ Some place → text_reply indexes h from to Fatal ≡ Err (Malformed place)
unfolding range_fault
is_malformed indexes h from to place order within first =
    let ordered : nat_le from to ≡ true = grind (arith, nat_tests) in
    let inside : nat_le to (length (text_of (document_of indexes h))) ≡ true = grind (arith, nat_tests) in
    rw (ordered, inside, first) refl
