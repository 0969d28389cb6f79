use Rattle.position_map.{proofs.Words.◌≡◌, proofs.Words.ending_of, specs.declared.cuts.Ending.TheVariants.One}
use Rattle.position_map.proofs.Endings.{cr_alone, cr_lf, cr_other, ending-bytes, no_byte, no_cr}
use Rattle.position_map.proofs.cuts.ending_of.Goals.{then-is_empty-via-then-is_empty, then-is_empty-via-else-is_empty+then-bytes-ne13}
use Rattle.position_map.proofs.cuts.ending_of.Goals as goal

pub returns-then-is_empty : goal.returns-then-is_empty
returns-then-is_empty c =
    let bytes = c.as_bytes-bytes.result.now in
    let none : ending_of bytes ≡ One = elim c.then-is_empty.branch [
      | then-is_empty-via-then-is_empty w ↦ no_byte bytes c.is_empty.result c.is_empty.ensures w.if-is_empty.true
      | then-is_empty-via-else-is_empty+then-bytes-ne13 w ↦ no_cr bytes w.if-bytes-ne13.true
    ] in
    ending-bytes _ bytes _ c.utf8.text c.as_bytes-bytes.ensures.value none

pub returns-then-bytes-eq1 : goal.returns-then-bytes-eq1
returns-then-bytes-eq1 c =
    let bytes = c.as_bytes-bytes.result.now in
    ending-bytes _ bytes _ c.utf8.text c.as_bytes-bytes.ensures.value (cr_alone bytes c.if-bytes-ne13.false c.if-bytes-eq1.true)

pub returns-then-bytes-eq10 : goal.returns-then-bytes-eq10
returns-then-bytes-eq10 c =
    let bytes = c.as_bytes-bytes.result.now in
    ending-bytes _ bytes _ c.utf8.text c.as_bytes-bytes.ensures.value (cr_lf bytes c.if-bytes-ne13.false c.if-bytes-eq10.true)

pub returns-else-bytes-eq10 : goal.returns-else-bytes-eq10
returns-else-bytes-eq10 c =
    let bytes = c.as_bytes-bytes.result.now in
    ending-bytes _ bytes _ c.utf8.text c.as_bytes-bytes.ensures.value
    (cr_other bytes c.if-bytes-ne13.false c.if-bytes-eq1.false c.if-bytes-eq10.false)
