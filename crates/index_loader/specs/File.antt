-- What an index file holds (Encoding Standard, "Indexes").
use Rattle.std.specs.Prelude.{◌≡◌, ℕ, ◌==◌, Bool, true, false, not, ◌&&◌, List, [], Option, Some, None, is_some, Result, Ok, Err, if◌then◌else◌}
use Rattle.index_loader.specs.declared.fault.IndexCause.{IndexCause, TheVariants.BadRanges, TheVariants.DuplicatePointer, TheVariants.OutOfMemory}
use Rattle.index_loader.specs.{declared.fault.IndexFault.IndexFault, declared.kind.IndexKind.IndexKind, Index.Loaded, Index.is_ranges, Kinds.home_of}
use Rattle.index_loader.specs.{Lines.lines_of, Lines.pair_on, Numbered.FaultIs, Numbered.read_from, Pairs.Pairs, Pairs.code_point_at, Pairs.inserted}

-- a pair added to those of the previous lines, unless one of these has its pointer
abbrev pub pairs_beside : ℕ → Pairs → ℕ × ℕ → Result Pairs IndexFault
pairs_beside number above pair =
    if is_some (code_point_at above pair.0) then Err (record { line = number; cause = DuplicatePointer }) else Ok (inserted pair above)

-- the pairs of the lines above and of this one
abbrev pub pairs_with : ℕ → Pairs → Result (Option (ℕ × ℕ)) IndexCause → Result Pairs IndexFault
pairs_with number above (Err cause) = Err (record { line = number; cause = cause })
pairs_with number above (Ok None) = Ok above
pairs_with number above (Ok (Some pair)) = pairs_beside number above pair

-- the pairs of the lines above and of one more
abbrev pub with_line : IndexKind → ℕ → Pairs → List ℕ → Result Pairs IndexFault
with_line kind number above line = pairs_with number above (pair_on kind line)

-- the pairs of the lines above and of these numbered ones, or the fault of the first faulty line
abbrev pub pairs_from : IndexKind → Result Pairs IndexFault → ℕ → List (List ℕ) → Result Pairs IndexFault
pairs_from kind above number lines = read_from (with_line kind) above number lines

-- there is a number, and it is this one
abbrev pub is_number : Option ℕ → ℕ → Bool
is_number None n = false
is_number (Some m) n = m == n

-- the rows that the ranges need are present: the first after ASCII and the first of the planes above
abbrev pub has_needed_rows : Pairs → Bool
has_needed_rows rows = is_number (code_point_at rows 0) 0x80 && is_number (code_point_at rows 189000) 0x10000

-- the pairs, where the file has what its kind needs
abbrev pub if_complete : IndexKind → Result Pairs IndexFault → Result Pairs IndexFault
if_complete kind (Err fault) = Err fault
if_complete kind (Ok pairs) =
    if is_ranges kind && not (has_needed_rows pairs) then Err (record { line = 0; cause = BadRanges }) else Ok pairs

-- the pairs that a file holds, or its first fault
abbrev pub pairs_parsed : IndexKind → List ℕ → Result Pairs IndexFault
pairs_parsed kind bytes = if_complete kind (pairs_from kind (Ok []) 1 (lines_of bytes))

-- memory was refused; any other cause is a line's
abbrev pub is_out_of_memory : IndexCause → Bool
is_out_of_memory OutOfMemory = true
is_out_of_memory _ = false

-- what a reading of the file answers: an index of its pairs, or a fault
abbrev pub IsReading : IndexKind → List ℕ → Result Loaded IndexFault → Type 0
IsReading kind bytes (Ok index) = (pairs_parsed kind bytes ≡ Ok index.pairs) × (index.kind ≡ home_of kind)
IsReading kind bytes (Err fault) = FaultIs (is_out_of_memory fault.cause) fault.line fault (pairs_parsed kind bytes)
