use Rattle.std.proofs.Common.{length, refl, arith}
use Rattle.lane_utf.proofs.Progress.{run_room, run_up_to, threes}
use Rattle.lane_utf.proofs.to_utf8.put_run.Goals as goal

pub put_threes-requires : goal.put_threes-requires
put_threes-requires c =
    omega (arith, run_room c.args.units.now c.args.from 24 (length c.args.bytes.now) c.type_inv.units c.requires.left c.requires.paired c.requires.room)

pub returns-then-are_threes-clause-up_to : goal.returns-then-are_threes-clause-up_to
returns-then-are_threes-clause-up_to c old u =
    run_up_to threes 8 _ 8 24 c.type_inv.units (omega (arith, c.requires.left)) (omega (arith, c.requires.left)) c.requires.room
    (c.are_threes.ensures c.if-are_threes.true) refl c.put_threes.ensures u
