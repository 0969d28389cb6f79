use Rattle.lemmas.proofs.Recursion.{sum-ones}
use Rattle.desk.proofs.Prelude.{refl, text_of, Utf32}
use Rattle.position_map.specs.Widths.{width}
use Rattle.desk.proofs.ops.stat.StatQuestion.ask.Goals as goal

-- The code points are the units of UTF-32.
pub returns : goal.returns
returns c =
    let units = sum-ones (width Utf32) refl (λ _ _. refl) (text_of c.args.opened.now.document) in
    rw (
      units,
      c.given.ensures,
      c.encoding.ensures,
      c.bom_len.ensures,
      c.lengths-lengths.ensures.bytes,
      c.lengths-lengths.ensures.errors,
      c.line_count-lines.ensures.lines,
      c.lengths-lengths.ensures.utf8,
      c.lengths-lengths.ensures.utf16,
      c.lengths-lengths.ensures.scalars,
    ) refl
