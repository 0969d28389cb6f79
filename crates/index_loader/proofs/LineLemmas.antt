-- The lines of a file, one after another.
use Rattle.std.proofs.Common.{◌+◌, ◌==◌, ◌∷◌, Bool, Bor, Result, option_copied, ◌≡◌, ℕ, ◌<◌, ◌&&◌, not, true, false, List, [], length, get_or, set, Option}
use Rattle.std.proofs.{Common.Some, Common.None, Common.Ok, Common.Err, Common.refl, Common.ap, Common.◌∙◌, Common.arith, lemmas.Bool.Decides.nat_tests}
use Rattle.index_loader.{proofs.Places.code_point-in_table, proofs.Places.inserted-in_table, specs.Inside.limit_of, specs.Inside.pairs_by_pointer}
use Rattle.index_loader.proofs.Prelude.{BadRanges, IndexKind, has_needed_rows, if_complete, pairs_from, pairs_parsed, allows, code_point_at, inserted, lines_of}
use Rattle.index_loader.proofs.Prelude.{is_ranges, Pairs, pairs_in, table_len, slice_split, FaultIs, read_from, parts_behind}
use Rattle.index_loader.specs.declared.by_pointer.ByPointer.{ByPointer, TheVariants.Table}

-- a pair put into a table that has none of its pointer
pub put-in_table : (by_pointer : ByPointer) (places : List (Option ℕ)) (pointer code_point : ℕ) → by_pointer ≡ Table places
    → pointer < limit_of by_pointer → code_point_at (pairs_by_pointer by_pointer) pointer ≡ None
    → pairs_in (set places pointer (Some code_point)) ≡ inserted (pointer, code_point) (pairs_by_pointer by_pointer)
put-in_table by_pointer places pointer code_point is room new =
    let none : get_or places pointer None ≡ None = rw (is, code_point-in_table places pointer) at new in
    let within : pointer < length places = rw is at room in
    rw is (inserted-in_table places pointer code_point within none)

-- an allowed pointer has a place in the table
pub allowed-place : (kind : IndexKind) (pointer code_point : ℕ) → allows kind pointer code_point ≡ true → pointer < table_len kind
allowed-place kind pointer code_point allowed = grind (arith, nat_tests)

-- the file as a whole
pub parsed-complete : (kind : IndexKind) (bytes : List ℕ) (pairs : Pairs) → pairs_from kind (Ok []) 1 (lines_of bytes) ≡ Ok pairs
    → false ≡ (is_ranges kind && not (has_needed_rows pairs)) → pairs_parsed kind bytes ≡ Ok pairs
parsed-complete kind bytes pairs is complete = ap (if_complete kind) is ∙ rw (← complete) refl

pub parsed-lacking : (kind : IndexKind) (bytes : List ℕ) (pairs : Pairs) → pairs_from kind (Ok []) 1 (lines_of bytes) ≡ Ok pairs
    → true ≡ (is_ranges kind && not (has_needed_rows pairs)) → pairs_parsed kind bytes ≡ Err (record { line = 0; cause = BadRanges })
parsed-lacking kind bytes pairs is lacking = ap (if_complete kind) is ∙ rw (← lacking) refl

-- a fault stays
pub stays : {A F : Type 0} (reading : ℕ → A → List ℕ → Result A F) (fault : F) (number : ℕ) (lines : List (List ℕ))
    → read_from reading (Err fault) number lines ≡ Err fault
stays reading fault number [] = refl
stays reading fault number (line ∷ lines) = stays reading fault (number + 1) lines

-- the fault of the next line is that of the file, where the lines above have none
pub fault-of_file : {A F : Type 0} (reading : ℕ → A → List ℕ → Result A F) (parsed : Result A F) (above : A) (number : ℕ)
    (rest : Option (Bor (List ℕ))) (text : Bor (List ℕ)) (line : List ℕ) (lines : List (List ℕ)) (refused : Bool) (at : ℕ) (fault : F)
    → parsed ≡ read_from reading (Ok above) number (parts_behind 0x0A (option_copied rest)) → rest ≡ Some text
    → slice_split (λ b. b == 0x0A) text.now ≡ line ∷ lines
    → FaultIs refused at fault (reading number above line) → FaultIs refused at fault parsed
fault-of_file reading parsed above number rest text line lines true at fault whole some parts is = is
fault-of_file {A} {F} reading parsed above number rest text line lines false at fault whole some parts is =
    rw (whole, some, parts) (ap (λ (first : Result A F). read_from reading first (number + 1) lines) is ∙ stays reading fault (number + 1) lines)
