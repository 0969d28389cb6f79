use Rattle.position_map.proofs.{Words.◌<◌, Words.arith, Words.length, Words.text_of, OnLines.position_past}
use Rattle.position_map.proofs.positions.to_position.Goals as goal

pub returns-then-offset-end-clause-position : goal.returns-then-offset-end-clause-position
returns-then-offset-end-clause-position c =
    let past : length (text_of c.of-parts.result.doc) < c.args.offset = omega (arith, c.end.ensures.scalars, c.if-offset-end.true) in
    rw c.of-parts.ensures.doc at (position_past c.args.unit _ _ past)

pub returns-clause-position : goal.returns-clause-position
returns-clause-position c = rw c.of-parts.ensures.doc at c.position_at.ensures.position
