use Rattle.position_map.proofs.{Words.arith, Words.chars, Selecting.scalars_along, Widths.width-scalars}
use Rattle.position_map.proofs.cuts.along_utf32.Goals as goal

pub returns-in-Some : goal.returns-in-Some
returns-in-Some c = scalars_along _ _ _ _ c.in-Some.ensures.cut

pub returns-in-None : goal.returns-in-None
returns-in-None c = omega (arith, c.in-None.ensures.cut, width-scalars (chars c.args.text.now))
