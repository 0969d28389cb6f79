use Rattle.std.proofs.Common.{ap, encode_utf8_all}
use Rattle.lane_utf.proofs.Progress.{scalar_room, scalar_up_to}
use Rattle.lane_utf.proofs.to_utf8.put_front.Goals as goal

pub put_scalar-written-requires-clause-room : goal.put_scalar-written-requires-clause-room
put_scalar-written-requires-clause-room c =
    scalar_room _ _ c.front-code_point.result.0 c.args.from.written _ (ap encode_utf8_all c.front-code_point.ensures.first) c.requires.room

pub returns-clause-up_to : goal.returns-clause-up_to
returns-clause-up_to c old u =
    scalar_up_to c.put_scalar-written.new.bytes c.front-code_point.result.0 c.front-code_point.result.1 c.put_scalar-written.result c.requires.within
    c.requires.room c.front-code_point.ensures c.put_scalar-written.ensures.end c.put_scalar-written.ensures.bytes u
