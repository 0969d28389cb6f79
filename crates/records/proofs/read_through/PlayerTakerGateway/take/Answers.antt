use Rattle.std.proofs.Common.{arith}
use Rattle.records.proofs.ReadThrough.{ready_after, room_after}
use Rattle.records.proofs.read_through.PlayerTakerGateway.take.Goals as goal

pub take-requires : goal.take-requires
take-requires g c = let ready = c.requires.ready in let room = c.requires.room in omega (arith, ready, room)

pub returns-clause-ready : goal.returns-clause-ready
returns-clause-ready g c = ready_after c.take.result c.args.bytes.now _ _ _ _ c.take.ensures.bound c.take.ensures.plays c.requires.ready c.requires.room

pub returns-clause-room : goal.returns-clause-room
returns-clause-room g c = room_after c.take.result c.args.bytes.now _ _ _ _ c.take.ensures.bound c.take.ensures.plays
