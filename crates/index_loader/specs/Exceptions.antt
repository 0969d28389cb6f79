-- The exceptions of the gb18030 encoder: code points with the two bytes that it writes before it looks into its index. Their file is this
-- project's own; its lines are
-- cut, numbered and skipped as those of an index file.
use Rattle.std.specs.Prelude.{◌≡◌, ℕ, ◌==◌, ◌/◌, ◌%◌, nat_le, Bool, true, false, ◌&&◌, ◌||◌, List, [], ◌∷◌, length, Option, Some, None, is_some, Result, Ok}
use Rattle.std.specs.Prelude.{Err, if◌then◌else◌, option_and_then}
use Rattle.std.specs.{BTreeMap.insert_entry, BTreeMap.is_at, Map.lookup, Ordering.nat_cmp, Str.Lines.strip_carriage_return}
use Rattle.index_loader.specs.declared.fault.ExceptionCause.{ExceptionCause, TheVariants.BadCodePoint, TheVariants.BadBytes, TheVariants.DuplicateCodePoint}
use Rattle.index_loader.specs.declared.fault.{ExceptionCause.TheVariants.OutOfMemory, ExceptionFault.ExceptionFault}
use Rattle.index_loader.specs.{Lines.lines_of, Lines.number_in, Lines.scalar_in, Lines.stripped, Lines.unless_skipped, Numbered.FaultIs, Numbered.read_from}

-- code points, each with its two bytes, in the order of the code points
abbrev pub ExceptionTable : Type 0
ExceptionTable = List (ℕ × List ℕ)

-- the bytes of a code point
abbrev pub exception_of : ExceptionTable → ℕ → Option (List ℕ)
exception_of exceptions c = lookup (is_at (nat_cmp c)) exceptions

-- the first of two bytes of gb18030
abbrev pub is_lead : ℕ → Bool
is_lead b = nat_le 0x81 b && nat_le b 0xFE

-- and the second
abbrev pub is_trail : ℕ → Bool
is_trail b = (nat_le 0x40 b && nat_le b 0x7E) || (nat_le 0x80 b && nat_le b 0xFE)

-- the two bytes of a number, where gb18030 has such
abbrev pub as_pair : ℕ → Option (List ℕ)
as_pair n = if is_lead (n / 0x100) && is_trail (n % 0x100) then Some (n / 0x100 ∷ n % 0x100 ∷ []) else None

-- the two bytes of a text of four hexadecimal digits
abbrev pub bytes_in : List ℕ → Option (List ℕ)
bytes_in text = if length text == 4 then option_and_then as_pair (number_in 16 text) else None

-- those of the first of these fields
abbrev pub bytes_behind : List (List ℕ) → Option (List ℕ)
bytes_behind [] = None
bytes_behind (field ∷ fields) = bytes_in (stripped field)

-- a code point and its bytes, or the first of them that is missing
abbrev pub exception_with : Option ℕ → Option (List ℕ) → Result (Option (ℕ × List ℕ)) ExceptionCause
exception_with None bytes = Err BadCodePoint
exception_with (Some c) None = Err BadBytes
exception_with (Some c) (Some bytes) = Ok (Some (c, bytes))

-- the exception in the fields of a line, or the first cause why there is none
abbrev pub exception_in : List (List ℕ) → Result (Option (ℕ × List ℕ)) ExceptionCause
exception_in [] = Err BadCodePoint
exception_in (field ∷ fields) = exception_with (scalar_in (stripped field)) (bytes_behind fields)

-- what a line holds: nothing, an exception, or the first cause why it is refused
abbrev pub exception_on : List ℕ → Result (Option (ℕ × List ℕ)) ExceptionCause
exception_on line = unless_skipped exception_in (strip_carriage_return line)

-- an exception added to those of the previous lines, unless one of these has its code point
abbrev pub exceptions_beside : ℕ → ExceptionTable → ℕ → List ℕ → Result ExceptionTable ExceptionFault
exceptions_beside number above c bytes =
    if is_some (exception_of above c) then Err (record { line = number; cause = DuplicateCodePoint }) else Ok (insert_entry nat_cmp above c bytes)

-- the exceptions of the lines above and of what one more holds
abbrev pub exceptions_with : ℕ → ExceptionTable → Result (Option (ℕ × List ℕ)) ExceptionCause → Result ExceptionTable ExceptionFault
exceptions_with number above (Err cause) = Err (record { line = number; cause = cause })
exceptions_with number above (Ok None) = Ok above
exceptions_with number above (Ok (Some exception)) = exceptions_beside number above exception.0 exception.1

-- the exceptions of the lines above and of one more
abbrev pub with_exception : ℕ → ExceptionTable → List ℕ → Result ExceptionTable ExceptionFault
with_exception number above line = exceptions_with number above (exception_on line)

-- the exceptions of the lines above and of these numbered ones, or the fault of the first faulty line
abbrev pub exceptions_from : Result ExceptionTable ExceptionFault → ℕ → List (List ℕ) → Result ExceptionTable ExceptionFault
exceptions_from above number lines = read_from with_exception above number lines

-- the exceptions that a file holds, or its first fault
abbrev pub exceptions_parsed : List ℕ → Result ExceptionTable ExceptionFault
exceptions_parsed bytes = exceptions_from (Ok []) 1 (lines_of bytes)

-- memory was refused; any other cause is a line's
abbrev pub is_out_of_memory : ExceptionCause → Bool
is_out_of_memory OutOfMemory = true
is_out_of_memory _ = false

-- what a reading of the file answers: its exceptions, or a fault
abbrev pub IsParsed : List ℕ → Result ExceptionTable ExceptionFault → Type 0
IsParsed bytes (Ok exceptions) = exceptions_parsed bytes ≡ Ok exceptions
IsParsed bytes (Err fault) = FaultIs (is_out_of_memory fault.cause) fault.line fault (exceptions_parsed bytes)
