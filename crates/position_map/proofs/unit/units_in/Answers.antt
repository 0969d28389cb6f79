use Rattle.position_map.proofs.{Words.◌∙◌, Words.sym, Words.chars, Widths.width-bytes, Widths.width-scalars}
use Rattle.position_map.proofs.unit.units_in.Goals as goal

pub returns-in-Utf8 : goal.returns-in-Utf8
returns-in-Utf8 c = rw c.in-Utf8.is (sym (width-bytes _ c.utf8.text))

pub returns-in-Utf32 : goal.returns-in-Utf32
returns-in-Utf32 c = rw c.in-Utf32.is (c.count_scalars.ensures ∙ sym (width-scalars (chars c.args.text.now)))
