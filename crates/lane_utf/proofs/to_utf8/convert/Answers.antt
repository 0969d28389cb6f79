use Rattle.std.proofs.Common.{◌∙◌, ◌≤◌, length, arith}
use Rattle.lane_utf.proofs.UnitSums.{paired-bytes, units-bound, has_room, lacks_room}
use Rattle.lane_utf.proofs.to_utf8.convert.Goals.{then-bytes-units+else-bytes-needed, else-bytes-units}
use Rattle.lane_utf.proofs.to_utf8.convert.Goals as goal

pub returns-then-bytes-needed-clause-answer : goal.returns-then-bytes-needed-clause-answer
returns-then-bytes-needed-clause-answer c =
    lacks_room c.args.units.now c.type_inv.units c.requires _ (length c.args.bytes.now) c.utf8_length-needed.ensures c.if-bytes-needed.true

pub write-requires-clause-room : goal.write-requires-clause-room
write-requires-clause-room c =
    let bytes = paired-bytes c.args.units.now c.type_inv.units c.requires in
    elim c.if-bytes-units.branch [
      | then-bytes-units+else-bytes-needed w ↦ omega (arith, bytes, w.utf8_length-needed.ensures, w.if-bytes-needed.false)
      | else-bytes-units w ↦ omega (arith, bytes, units-bound c.args.units.now, w.if-bytes-units.false)
    ]

pub returns-clause-answer : goal.returns-clause-answer
returns-clause-answer c =
    let bytes = paired-bytes c.args.units.now c.type_inv.units c.requires in
    let enough : c.write.result ≤ length c.args.bytes.now = elim c.if-bytes-units.branch [
      | then-bytes-units+else-bytes-needed w ↦ omega (arith, bytes, c.write.ensures.length, w.utf8_length-needed.ensures, w.if-bytes-needed.false)
      | else-bytes-units w ↦ omega (arith, bytes, c.write.ensures.length, units-bound c.args.units.now, w.if-bytes-units.false)
    ] in
    has_room c.args.units.now c.type_inv.units c.requires c.write.result (length c.args.bytes.now) (c.write.ensures.length ∙ bytes) enough
