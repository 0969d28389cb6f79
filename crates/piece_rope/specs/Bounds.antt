-- What the bytes of a document can give.
use Rattle.std.specs.Prelude.{◌*◌, ◌≤◌, false, length}
use Rattle.state_memo.specs.Decoding.{marks, utf8_width, utf16_width, total_width}
use Rattle.piece_rope.specs.Document.{Document, text_of, errors_of}

-- An item for each byte, at most, and two code points for each item, of at most two units of UTF-16 and four bytes of UTF-8.
pub record HasFew (d : Document) : Type 0 where
  pub scalars : length (text_of d) ≤ 2 * length d.bytes
  pub utf16 : total_width utf16_width (text_of d) ≤ 4 * length d.bytes
  pub utf8 : total_width utf8_width (text_of d) ≤ 8 * length d.bytes
  pub marks : marks false (text_of d) ≤ 2 * length d.bytes
  pub errors : length (errors_of d) ≤ length d.bytes
