use Rattle.position_map.proofs.{Words.arith, Words.Scalar, Words.measure, ErrorPieces.numbers-before, ErrorPieces.numbers-room, ErrorPieces.placed-room}
use Rattle.position_map.proofs.diagnostic.errors_before.Goals as goal

pub errors_before_in-requires : goal.errors_before_in-requires
errors_before_in-requires c =
    omega (arith, placed-room (measure Scalar) c.args.parts.now _ _ _ c.find_or_tail.ensures.place c.find_or_tail.ensures.whole)

pub overflow_add-result : goal.overflow_add-result
overflow_add-result c = omega (arith, numbers-room c.args.parts.now _ _ _ c.find_or_tail.ensures.place c.find_or_tail.ensures.whole)

pub returns-clause-count : goal.returns-clause-count
returns-clause-count c =
    rw c.errors_before_in.ensures (numbers-before c.args.parts.now _ _ _ c.find_or_tail.ensures.place c.find_or_tail.ensures.whole)
