use Rattle.std.proofs.Common.{◌∙◌, ap, arith, w32}
use Rattle.std.specs.{Int.to_le_bytes, Simd.Lanes.put_chunk}
use Rattle.lane_utf.proofs.{Progress.run_room, Progress.tail_long, Progress.unit_front, Progress.unit_passed, Progress.unit_up_to}
use Rattle.lane_utf.proofs.to_utf8.put_unit.Goals as goal

pub store-bytes : goal.store-bytes
store-bytes c = omega (arith, run_room _ _ 4 _ c.type_inv._units c.requires.left c.requires.paired c.requires.room)

pub returns-clause-paired : goal.returns-clause-paired
returns-clause-paired c =
    let front = unit_front c.args._units.now c.args.from.read (omega (arith, c.requires.left)) c.type_inv._units c.requires.paired c.requires.form.plain in
    (unit_passed c.args._units.now c.args.from _ _ _ front c.requires.form.width c.requires.room).0

pub returns-clause-room : goal.returns-clause-room
returns-clause-room c =
    let front = unit_front c.args._units.now c.args.from.read (omega (arith, c.requires.left)) c.type_inv._units c.requires.paired c.requires.form.plain in
    (unit_passed c.args._units.now c.args.from _ _ _ front (c.from.ensures ∙ c.requires.form.width) c.requires.room).1

pub returns-clause-up_to : goal.returns-clause-up_to
returns-clause-up_to c old u =
    let units = c.args._units.now in
    let front = unit_front units c.args.from.read (omega (arith, c.requires.left)) c.type_inv._units c.requires.paired c.requires.form.plain in
    let form = c.requires.form in
    unit_up_to _ (to_le_bytes w32 c.args.form) _ _ (c.type_inv._units c.args.from.read).fits (omega (arith, c.requires.left))
    (tail_long units c.args.from.read 4 c.type_inv._units c.requires.left c.requires.paired) c.requires.room front
    (record { plain = form.plain; bytes = form.bytes; width = c.from.ensures ∙ form.width })
    (ap (put_chunk c.args.from.written c.args.bytes.now) c.to_le_bytes.ensures) u
