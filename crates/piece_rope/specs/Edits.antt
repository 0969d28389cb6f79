-- Edits of a document, and what refuses them.
use Rattle.std.specs.Prelude.{◌≡◌, ℕ, ◌+◌, ◌&&◌, nat_le, Bool, true, false, List, ◌++◌, length, take, drop, Option, Some, None, Result, Ok, Err, if◌then◌else◌}
use Rattle.std.specs.Str.{bytes_eq}
use Rattle.enc_names.specs.declared.encoding.Encoding.{Encoding}
use Rattle.index_loader.specs.Files.{Files, has_files}
use Rattle.piece_rope.specs.{Document.Document, Document.text_of, Document.errors_of, declared.fault.DocFault.DocFault}
use Rattle.piece_rope.specs.declared.fault.DocFault.TheVariants.{NoIndex, OutOfRange, TooLarge, NotKept, OutOfMemory}
pub use Rattle.state_memo.specs.Decoding.{replaced}

-- the most bytes that a document has
abbrev pub document_limit : ℕ
document_limit = 16777216

-- the bytes before `at`, then those put in, then those from `at + del` to the end
abbrev pub spliced : List ℕ → ℕ → ℕ → List ℕ → List ℕ
spliced bytes at del ins = take at bytes ++ ins ++ drop (at + del) bytes

-- the document with the bytes of a splice
abbrev pub spliced_document : Document → ℕ → ℕ → List ℕ → Document
spliced_document d at del ins = record d { bytes = spliced d.bytes at del ins }

-- ---- edits of several parts

-- one is under way, and the document can come back to what it is now
abbrev pub begun : Document → Document
begun d = record d { earlier = Some d.bytes }

-- none is under way any more
abbrev pub settled : Document → Document
settled d = record d { earlier = None }

abbrev pub earlier_or : List ℕ → Option (List ℕ) → List ℕ
earlier_or bytes None = bytes
earlier_or bytes (Some earlier) = earlier

-- the document as it was before the edit that is under way, if there is one
abbrev pub rolled_back : Document → Document
rolled_back d = record d { bytes = earlier_or d.bytes d.earlier; earlier = None }

-- ---- refusals

-- The first cause, in the fixed order, that refuses a call.
unfoldable pub open_fault : Files → Encoding → List ℕ → Option DocFault
open_fault files encoding bytes =
    if has_files files encoding then (if nat_le (length bytes) document_limit then None else Some TooLarge) else Some NoIndex

unfoldable pub splice_fault : List ℕ → ℕ → ℕ → List ℕ → Option DocFault
splice_fault bytes at del ins =
    if nat_le (at + del) (length bytes)
    then (if nat_le (length (spliced bytes at del ins)) document_limit then None else Some TooLarge)
    else Some OutOfRange

unfoldable pub source_fault : List ℕ → ℕ → ℕ → Option DocFault
source_fault bytes at len = if nat_le (at + len) (length bytes) then None else Some OutOfRange

-- what refuses a range in a list of n, and a number in it
unfoldable pub range_fault : ℕ → ℕ → ℕ → Option DocFault
range_fault count i j = if nat_le i j && nat_le j count then None else Some OutOfRange

unfoldable pub number_fault : ℕ → ℕ → Option DocFault
number_fault count from = if nat_le from count then None else Some OutOfRange

abbrev pub text_fault : Document → ℕ → ℕ → Option DocFault
text_fault d i j = range_fault (length (text_of d)) i j

abbrev pub errors_fault : Document → ℕ → Option DocFault
errors_fault d from = number_fault (length (errors_of d)) from

-- the cause that an answer names; a lack of memory isn't one, and can replace any answer that names none
abbrev pub named : DocFault → Option DocFault
named NoIndex = Some NoIndex
named OutOfRange = Some OutOfRange
named TooLarge = Some TooLarge
named NotKept = Some NotKept
named OutOfMemory = None

-- a call's answer names the cause that refuses it; if there is none, it isn't a refusal, or is a lack of memory
abbrev pub Faults : {A : Type 0} → Option DocFault → Result A DocFault → Type 0
Faults fault (Ok x) = fault ≡ None
Faults fault (Err e) = fault ≡ named e

-- decoded from scratch, the bytes of the splice give the old text with its code points from i to j replaced
abbrev pub is_kept : Document → ℕ → ℕ → List ℕ → ℕ → ℕ → List ℕ → Bool
is_kept d at del ins i j put = bytes_eq (text_of (spliced_document d at del ins)) (replaced (text_of d) i j put)

abbrev pub first_of : Option DocFault → Option DocFault → Option DocFault
first_of (Some fault) other = Some fault
first_of None other = other

-- the cause that refuses a kept splice before its text is looked at
abbrev pub kept_fault : Document → ℕ → ℕ → List ℕ → ℕ → ℕ → Option DocFault
kept_fault d at del ins i j = first_of (text_fault d i j) (splice_fault d.bytes at del ins)

-- A kept splice's answer names the cause that refuses it. If there is none, it isn't a refusal if the text is kept, and `NotKept` if it
-- isn't; a lack of memory can replace these two.
abbrev pub KeptAnswers : {A : Type 0} → Option DocFault → Bool → Result A DocFault → Type 0
KeptAnswers fault kept (Ok x) = (fault ≡ None) × (kept ≡ true)
KeptAnswers fault kept (Err NotKept) = (fault ≡ None) × (kept ≡ false)
KeptAnswers fault kept (Err OutOfMemory) = fault ≡ None
KeptAnswers fault kept (Err cause) = fault ≡ Some cause
