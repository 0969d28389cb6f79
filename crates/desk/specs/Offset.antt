-- The offset of a position in a document.
use Rattle.std.specs.Prelude.{ℕ, Result}
use Rattle.index_loader.specs.Files.{Files}
use Rattle.piece_rope.specs.Document.{text_of}
use Rattle.position_map.specs.{Positions.offset_of, declared.unit.Unit.Unit as TextUnit}
use Rattle.desk.specs.Documents.{Entry, document_of, unless_position_fault}
use Rattle.desk.specs.declared.{fault.Fault.Fault, ops.Reply.Reply, ops.Reply.TheVariants.Offset}

abbrev pub offset_reply : Files → Entry → ℕ → ℕ → TextUnit → Result Reply Fault
offset_reply indexes h line character unit =
    unless_position_fault (λ n. Offset (record { rev = h.revision; offset = n }))
    (offset_of (text_of (document_of indexes h)) unit (record { line = line; character = character }))
