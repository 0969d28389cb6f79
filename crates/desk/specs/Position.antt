-- The position of an offset in a document.
use Rattle.std.specs.Prelude.{ℕ, Result}
use Rattle.index_loader.specs.Files.{Files}
use Rattle.piece_rope.specs.Document.{text_of}
use Rattle.position_map.specs.{Positions.position_of, declared.unit.Unit.Unit as TextUnit}
use Rattle.desk.specs.Documents.{Entry, document_of, unless_position_fault}
use Rattle.desk.specs.declared.{fault.Fault.Fault, ops.Reply.Reply, ops.Reply.TheVariants.Position}

abbrev pub position_reply : Files → Entry → ℕ → TextUnit → Result Reply Fault
position_reply indexes h offset unit =
    unless_position_fault (λ p. Position (record { rev = h.revision; line = p.line; character = p.character }))
    (position_of (text_of (document_of indexes h)) unit offset)
