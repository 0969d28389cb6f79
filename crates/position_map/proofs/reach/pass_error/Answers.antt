use Rattle.position_map.proofs.{Words.ℕ, Words.◌+◌, Words.ap, Words.arith, Words.refl, Reaching.passed, Reaching.passed-room}
use Rattle.position_map.proofs.reach.pass_error.Goals as goal

pub overflow_add-result-2 : goal.overflow_add-result-2
overflow_add-result-2 c =
    let room = passed-room c.args.unit _ c.args.at c.end-end.result c.requires.at c.requires.error c.end-end.ensures in
    omega (arith, room, c.width_of_error.ensures, c.end-end.type_inv)

pub returns-clause-at : goal.returns-clause-at
returns-clause-at c =
    passed c.args.unit _ c.args.at _ c.requires.at c.requires.error c.rest_behind.ensures refl
    (ap (λ (n : ℕ). c.args.at.units + n) c.width_of_error.ensures) refl refl
