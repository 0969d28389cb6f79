use Rattle.position_map.proofs.Words.{arith, ints, ap, Sum}
use Rattle.position_map.proofs.{Items.IsCounted, Items.counts_are, Items.piece_room, places.scalars_until.Goals.After-scalars_before-ahead}
use Rattle.position_map.proofs.places.scalars_until.Goals as goal

-- the code points that are counted
counted : (c : After-scalars_before-ahead) → IsCounted c.args.parts.now c.args.at c.args.before c.scalars_before-inside.result c.scalars_before-ahead.result
counted c =
    let f = c.requires.found in
    let next = rw c.sum.ensures at c.piece_from-next.ensures.piece in
    let ahead = rw c.sum.ensures at c.scalars_before-ahead.ensures in
    counts_are _ _ _ _ _ _ _ _ _ c.bytes-length.ensures.whole f next c.scalars_before-inside.ensures ahead
    (let low = f.low in let high = f.high in let short = c.requires.small in omega (arith, ints)) (let low = f.low in let high = f.high in
    let short = c.requires.small in omega (arith, ints)) (omega (arith, c.bytes-length.ensures.bytes, c.bytes-length.type_inv))

pub overflow_add-start : goal.overflow_add-start
overflow_add-start c =
    omega (arith, piece_room _ _ _ _ c.bytes-length.ensures.whole c.requires.found, c.bytes-length.ensures.bytes, ap (λ (s : Sum). s.bytes) c.sum.ensures)

pub overflow_add-result : goal.overflow_add-result
overflow_add-result c =
    omega (arith, (counted (goal.at.overflow_add-result c).After-scalars_before-ahead).few, c.end-end.ensures.scalars, c.end-end.type_inv)

pub overflow_add-result-2 : goal.overflow_add-result-2
overflow_add-result-2 c =
    omega (arith, (counted (goal.at.overflow_add-result-2 c).After-scalars_before-ahead).few, c.end-end.ensures.scalars, c.end-end.type_inv)

pub returns-clause-scalars : goal.returns-clause-scalars
returns-clause-scalars c = (counted (goal.at.returns-clause-scalars c).After-scalars_before-ahead).is
