use Rattle.position_map.proofs.Words.{◌≤◌, ◌<◌, arith, text_of, width}
use Rattle.position_map.proofs.Fronting.{front_fits, convert_found, convert_split, convert_past}
use Rattle.position_map.proofs.positions.convert.Goals as goal

pub returns-then-value-end-clause-value : goal.returns-then-value-end-clause-value
returns-then-value-end-clause-value c =
    let past : width c.args.from (text_of c.of-parts.result.doc) < c.args.value = omega (arith, c.end.ensures.units, c.if-value-end.true) in
    rw c.of-parts.ensures.doc at (convert_past _ _ c.args.to _ past)

pub overflow_add-result : goal.overflow_add-result
overflow_add-result c =
    omega (arith, front_fits c.args.to _ _ _ _ c.in-Ok.ensures.front.is c.end-end.ensures, c.sum_in.ensures, c.units_in.ensures, c.end-end.type_inv)

pub returns-in-Ok-clause-value : goal.returns-in-Ok-clause-value
returns-in-Ok-clause-value c =
    let within : c.args.value ≤ width c.args.from (text_of c.of-parts.result.doc) = omega (arith, c.end.ensures.units, c.if-value-end.false) in
    rw c.of-parts.ensures.doc at (convert_found _ _ _ _ _ _ _ _ c.in-Ok.ensures.front within c.sum_in.ensures c.units_in.ensures)

pub returns-in-Err-clause-value : goal.returns-in-Err-clause-value
returns-in-Err-clause-value c =
    let within : c.args.value ≤ width c.args.from (text_of c.of-parts.result.doc) = omega (arith, c.end.ensures.units, c.if-value-end.false) in
    rw c.of-parts.ensures.doc at (convert_split _ _ c.args.to _ _ c.in-Err.ensures.front.0 c.in-Err.ensures.front.1 within)
