-- The lines of a document.
use Rattle.std.specs.Prelude.{ℕ, nat_le, List, length, take, drop, map, if◌then◌else◌, Result, Ok, Err}
use Rattle.index_loader.specs.Files.{Files}
use Rattle.piece_rope.specs.Document.{text_of}
use Rattle.position_map.specs.Lines.{LineSpan as Bounds, lines_of}
use Rattle.desk.specs.Documents.{Entry, document_of}
use Rattle.desk.specs.declared.{fault.Fault.Fault, fault.Fault.TheVariants.OutOfRange, line.Line.Line, ops.Reply.Reply, ops.Reply.TheVariants.Lines}

abbrev pub line_of : Bounds → Line
line_of l = record { start = l.start; end = l.end }

-- at most max lines of a text, the first being number `from`
abbrev pub page_of : List ℕ → ℕ → ℕ → List Line
page_of text from max = map line_of (take max (drop from (lines_of text)))

-- `from` may be the number of lines
abbrev pub lines_reply : Files → Entry → ℕ → ℕ → Result Reply Fault
lines_reply indexes h from max =
    let text = text_of (document_of indexes h) in
    let count = length (lines_of text) in
    if nat_le from count then Ok (Lines (record { rev = h.revision; count = count; lines = page_of text from max })) else Err OutOfRange
