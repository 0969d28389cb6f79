-- How long a document and its text are.
use Rattle.std.specs.Prelude.{length}
use Rattle.index_loader.specs.Files.{Files}
use Rattle.piece_rope.specs.Document.{decoded, text_of, errors_of}
use Rattle.position_map.specs.Lines.{lines_of}
use Rattle.position_map.specs.{Widths.width, declared.unit.Unit.TheVariants.Utf8, declared.unit.Unit.TheVariants.Utf16, declared.unit.Unit.TheVariants.Utf32}
use Rattle.desk.specs.{Documents.Entry, Documents.document_of, declared.ops.Reply.Reply, declared.ops.Reply.TheVariants.Stat}

-- the declared and the effective encoding, and the numbers of the mark's bytes, all bytes, errors, lines and units
abbrev pub stat_reply : Files → Entry → Reply
stat_reply indexes h =
    let d = document_of indexes h in
    let text = text_of d in
    Stat (record {
      rev = h.revision;
      given = h.setting.given;
      encoding = (decoded d).encoding;
      bom = (decoded d).bom;
      bytes = length h.bytes;
      errors = length (errors_of d);
      lines = length (lines_of text);
      utf8 = width Utf8 text;
      utf16 = width Utf16 text;
      utf32 = width Utf32 text;
    })
