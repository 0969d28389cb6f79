use Rattle.position_map.proofs.{Words.refl, Words.arith, Words.ap, Words.chars, Words.◌+◌, Pointing.mark_found, Pointing.part_fits}
use Rattle.position_map.proofs.marks.mark_at.Goals as goal

pub overflow_add-at-2 : goal.overflow_add-at-2
overflow_add-at-2 c =
    let fits = part_fits _ _ _ _ _ _ (chars c.args.cut.rest.now) _ _ c.requires.place c.requires.cut.split c.end-end.ensures in
    omega (arith, fits, c.sum_in.ensures, c.units_in.ensures, c.end-end.type_inv)

pub returns : goal.returns
returns c =
    mark_found _ _ _ _ _ _ _ _ _ c.requires.place c.requires.cut c.sum_in.ensures
    (record { scalars_are = ap (λ k. c.args.cut.before.scalars + k) c.requires.scalars; units_are = ap (λ k. c.sum_in.result + k) c.units_in.ensures })
    refl
