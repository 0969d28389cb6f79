-- A document as its pieces and its tail.
use Rattle.std.specs.Prelude.{◌≡◌, ℕ, ◌+◌, ◌/◌, ◌<◌, ◌≤◌, false, List, [], ◌∷◌, ◌++◌, length}
use Rattle.lane_ascii.specs.Marks.{marks}
use Rattle.lane_utf.specs.Widths.{utf8_width, utf16_width, total_width}
use Rattle.piece_rope.specs.{Document.Document, Document.decoded, Document.errors_of, Document.text_of, Made.AreMade}
use Rattle.piece_rope.specs.{Outcomes.Outcome, Outcomes.total_of, Outputs.HaveOutputs, Sizes.longest, Sizes.shortest, declared.lengths.Lengths.Lengths}

-- a document and what its pieces and the end of its bytes decode to
pub record Pieced : Type 0 where
  pub doc : Document
  pub pieces : List Outcome
  pub tail : Outcome

-- no document has more pieces than this
abbrev pub pieces_most : Document → ℕ
pieces_most d = 1 + length d.bytes / shortest

-- each piece has at least this number of bytes, or at most
abbrev pub AreAtLeast : ℕ → List Outcome → Type 0
AreAtLeast least [] = Unit {0}
AreAtLeast least (o ∷ os) = (least ≤ o.sum.bytes) × AreAtLeast least os

abbrev pub AreAtMost : ℕ → List Outcome → Type 0
AreAtMost most [] = Unit {0}
AreAtMost most (o ∷ os) = (o.sum.bytes ≤ most) × AreAtMost most os

pub record AreAllPieces (d : Document) (os : List Outcome) (tail : Outcome) : Type 0 where
  pub made : AreMade 0 (decoded d).items (os ++ tail ∷ [])
  pub bytes : (total_of os).bytes ≡ length d.bytes
  pub no_bytes : tail.sum.bytes ≡ 0
  pub some : AreAtLeast 1 os
  pub long : 1 < length os → AreAtLeast shortest os
  pub short : AreAtMost longest os
  pub few : length os ≤ pieces_most d
  pub outputs : HaveOutputs d 0 (os ++ tail ∷ [])

-- a document's lengths
pub record AreLengths (d : Document) (n : Lengths) : Type 0 where
  pub bytes : n.bytes ≡ length d.bytes
  pub scalars : n.scalars ≡ length (text_of d)
  pub utf16 : n.utf16 ≡ total_width utf16_width (text_of d)
  pub utf8 : n.utf8 ≡ total_width utf8_width (text_of d)
  pub errors : n.errors ≡ length (errors_of d)
  pub lines : n.lines ≡ marks false (text_of d) + 1
