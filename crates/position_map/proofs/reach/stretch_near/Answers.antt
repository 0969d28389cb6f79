use Rattle.position_map.proofs.{Words.arith, Words.refl, Reaching.stretch-near}
use Rattle.position_map.proofs.reach.stretch_near.Goals as goal

pub returns-in-Some-split_at_scalar : goal.returns-in-Some-split_at_scalar
returns-in-Some-split_at_scalar c = λ unit text l.
    stretch-near unit text c.args.offset c.in-Some.count c.args.at _ l (omega (arith, c.in-Some.ensures))
    (omega (arith, c.in-Some.ensures)) c.in-Some-split_at_scalar.ensures.cut refl refl refl
