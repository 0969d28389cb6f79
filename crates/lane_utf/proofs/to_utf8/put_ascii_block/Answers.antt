use Rattle.std.proofs.Common.{length, arith}
use Rattle.lane_utf.proofs.Progress.{run_room, run_up_to, ones}
use Rattle.lane_utf.proofs.to_utf8.put_ascii_block.Goals as goal

pub put_ones-requires : goal.put_ones-requires
put_ones-requires g c =
    let few = c.requires.few in
    let room = run_room c.args.units.now c.args.from g.row.N (length c.args.bytes.now) c.type_inv.units c.requires.within c.requires.paired c.requires.room in
    (omega (arith, few), (few, room))

pub returns-clause-up_to : goal.returns-clause-up_to
returns-clause-up_to g c old u =
    run_up_to ones g.row.N _ g.row.N g.row.N c.type_inv.units c.requires.within (omega (arith, c.requires.within)) c.requires.room
    c.requires.ascii (omega arith) c.put_ones.ensures u
