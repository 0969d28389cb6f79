-- What a splice that is to keep the text answers.
use Rattle.std.{specs.Bool.one_answer, proofs.lemmas.Bool.false_from_ne_true}
use Rattle.piece_rope.proofs.Prelude.{◌≡◌, refl, sym, ap, ◌∙◌, ℕ, ◌+◌, ◌≤◌, ◌<◌, Bool, true, false, ◌&&◌, nat_le, List, map, length, Option, Some, None, Err}
use Rattle.piece_rope.proofs.Prelude.{if◌then◌else◌, bytes_eq-Decides, Decides, le-leb, leb-true, lt-leb, Setting, Files, AnyDecoding, Contents, contents_of}
use Rattle.piece_rope.proofs.Prelude.{ending_of, Outcome, Sum, joined, PreparedEdit, Document, document, text_of, bytes_of, edited, document_limit, spliced}
use Rattle.piece_rope.proofs.Prelude.{spliced_document, kept_fault, is_kept, range_fault, splice_fault, replaced, KeptAnswers, Entry, here_of, sums_of, IsWhole}
use Rattle.piece_rope.proofs.Prelude.{IsKept, parts_of, edited_parts, text_in, IsReady, DocFault}
use Rattle.piece_rope.specs.declared.fault.DocFault.TheVariants.{OutOfRange, TooLarge, NotKept}
use Rattle.piece_rope.proofs.{Answering.text-whole, Keeping.kept-lengths, Parting.parts-text}

neither : (b c : Bool) → (b ≡ true → c ≡ false) → (b && c) ≡ false
neither true c e = e refl
neither false c e = refl

-- a range that doesn't exist is refused first
pub range-absent : (d : Document) (at del : ℕ) (ins : List ℕ) (i j : ℕ) → (i ≤ j → length (text_of d) < j) → kept_fault d at del ins i j ≡ Some OutOfRange
unfolding range_fault
range-absent d at del ins i j absent =
    rw (neither (nat_le i j) (nat_le j (length (text_of d))) (λ order. lt-leb j (length (text_of d)) (absent (leb-true i j order)))) refl

-- no cause of a number of tests
one_of : (b c : Bool) → (if b then (if c then None else Some TooLarge) else Some OutOfRange) ≡ Some NotKept → ⊥
one_of true true e = cc
one_of true false e = cc
one_of false c e = cc

pub cut-causes : (bytes : List ℕ) (at del : ℕ) (ins : List ℕ) → splice_fault bytes at del ins ≡ Some NotKept → ⊥
unfolding splice_fault
cut-causes bytes at del ins e = one_of (nat_le (at + del) (length bytes)) (nat_le (length (spliced bytes at del ins)) document_limit) e

-- an answer is passed on
pub kept-still : (A B : Type 0) (fault seen : Option DocFault) (kept found : Bool) (e : DocFault) → fault ≡ seen → kept ≡ found
    → KeptAnswers {A = A} seen found (Err e) → KeptAnswers {A = B} fault kept (Err e)
kept-still A B fault seen kept found NotKept same too answer = (same ∙ answer.0, too ∙ answer.1)
kept-still A B fault seen kept found e same too answer = same ∙ answer

-- if the range exists, the splice alone can have a cause
pub kept-cut : (d : Document) (at del : ℕ) (ins : List ℕ) (i j : ℕ) → i ≤ j → j ≤ length (text_of d)
    → kept_fault d at del ins i j ≡ splice_fault d.bytes at del ins
unfolding range_fault
kept-cut d at del ins i j order within = rw (le-leb i j order, le-leb j (length (text_of d)) within) refl

-- the text of a document, by its parts
pub parts-whole : (d : Document) (ps : List Entry) (tail : Outcome) → IsWhole d (map here_of ps) tail → text_in (parts_of ps tail) ≡ text_of d
parts-whole d ps tail whole = parts-text ps tail ∙ sym (text-whole d ps tail whole)

-- the numbers of the pieces have that of the text's code points
pub scalars-kept : {files : Files} {setting : Setting} {ps : List Entry} {tail : Outcome} {s : Sum} → s ≡ joined (sums_of ps) tail.sum
    → IsKept files setting ps tail → s.scalars ≡ length (text_of (document files setting (bytes_of ps)))
scalars-kept e kept = ap (λ (x : Sum). x.scalars) e ∙ (kept-lengths None kept).scalars

-- once a splice is ready no cause is left, and what was compared is what is asked
pub kept-answer : {files : Files} {setting : Setting} {ps : List Entry} {tail : Outcome} {e : PreparedEdit} {at del : ℕ} {ins : List ℕ}
    (i j : ℕ) (r : Bool) (put : List ℕ) → IsKept files setting ps tail → IsReady files setting ps at del ins e
    → Decides r (text_in (edited_parts ps e) ≡ replaced (text_in (parts_of ps tail)) i j put)
    → r ≡ is_kept (document files setting (bytes_of ps)) at del ins i j put
kept-answer {files} {setting} {ps} {tail} {e} {at} {del} {ins} i j r put kept ready decides =
    let d : Document = document files setting (bytes_of ps) in
    let after = spliced_document d at del ins in
    let new : text_in (edited_parts ps e) ≡ text_of after =
    cc (parts-whole (document files setting (bytes_of (edited ps e))) (edited ps e) e.tail ready.kept.whole, ready.bytes) in
    one_answer r (is_kept d at del ins i j put) (rw (new, parts-whole d ps tail kept.whole) at decides)
    (bytes_eq-Decides (text_of after) (replaced (text_of d) i j put))

-- another text than the wanted one isn't kept
pub another-kept : (d : Document) (at del : ℕ) (ins : List ℕ) (i j : ℕ) (put old : List ℕ) → old ≡ text_of d
    → (text_of (spliced_document d at del ins) ≡ replaced old i j put → ⊥) → is_kept d at del ins i j put ≡ false
another-kept d at del ins i j put old old_is other =
    false_from_ne_true (is_kept d at del ins i j put)
    (λ yes. other (rw old_is ((bytes_eq-Decides (text_of (spliced_document d at del ins)) (replaced (text_of d) i j put)).0 yes)))

-- ends from one state give one text
pub same-ends : (d : AnyDecoding) (new old : Outcome) → contents_of new ≡ ending_of d new.exit → contents_of old ≡ ending_of d old.exit
    → new.exit ≡ old.exit → new.text ≡ old.text
same-ends d new old new_is old_is same = ap (λ (o : Contents). o.text) (new_is ∙ ap (ending_of d) same ∙ sym old_is)
