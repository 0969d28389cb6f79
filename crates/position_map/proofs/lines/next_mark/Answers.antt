use Rattle.position_map.proofs.{Words.refl, Words.arith, Words.ap, Words.chars, Words.◌+◌, NextLines.mark_ahead, NextLines.ahead_fits}
use Rattle.position_map.proofs.lines.next_mark.Goals as goal

pub overflow_add-at-in-Some : goal.overflow_add-at-in-Some
overflow_add-at-in-Some c =
    let fits = ahead_fits _ c.args.n c.args.at _ (chars c.in-Some.rest.now) _ c.requires c.in-Some.ensures.0.split c.end-end.ensures in
    omega (arith, fits, c.units_in.ensures, c.end-end.type_inv)

pub returns-in-Some-clause-place : goal.returns-in-Some-clause-place
returns-in-Some-clause-place c =
    mark_ahead _ _ c.args.at _ _ _ c.requires c.in-Some.ensures.0
    (record { scalars_are = ap (λ k. c.args.at.start.scalars + k) c.in-Some.ensures.1; units_are = ap (λ k. c.args.at.start.units + k) c.units_in.ensures })
    refl
