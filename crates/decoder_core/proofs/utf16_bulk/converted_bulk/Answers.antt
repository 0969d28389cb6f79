use Rattle.std.proofs.Common.{rules, arith, ◌≡◌, ◌*◌, ◌≤◌, length}
use Rattle.decoder_core.proofs.{Prelude.falls_of, Prelude.utf16_holding, Moving.nothing_is_bulk, Utf16Runs.utf16_is_bulk, Utf16Runs.units-front}
use Rattle.decoder_core.proofs.utf16_bulk.converted_bulk.Goals as goal

pub returns-in-Ok : goal.returns-in-Ok
returns-in-Ok c =
    let order = c.args.order in
    let count = c.min-count.result in
    let some : 2 * count ≤ length c.args.bytes.now = Prim.omega (arith, c.min-count.ensures) in
    let room : length c.args.text.now ≡ 1024 = Prim.search rules in
    let read = units-front order count count c.args.bytes.now c.read_units.new.units (Prim.omega arith) c.read_units.ensures in
    rw c.unit_bulk.ensures
    (utf16_is_bulk order c.args.bytes.now _ c.utf16_to_utf8.new.bytes c.args.text.now count c.in-Ok.written (length c.args.text.now)
    some room read c.in-Ok.ensures.answer c.in-Ok.ensures.scalars c.in-Ok.ensures.form c.in-Ok.ensures.written)

pub returns-in-Ok-utf16_to_utf8 : goal.returns-in-Ok-utf16_to_utf8
returns-in-Ok-utf16_to_utf8 c =
    let order = c.args.order in
    let count = c.min-count.result in
    let paired = c.min-paired.result in
    let less : paired ≤ count = Prim.omega (arith, c.min-paired.ensures) in
    let some : 2 * paired ≤ length c.args.bytes.now = Prim.omega (arith, c.min-count.ensures, less) in
    let room : length c.utf16_to_utf8.new.bytes ≡ 1024 = Prim.search rules in
    let read = units-front order paired count c.args.bytes.now c.read_units.new.units less c.read_units.ensures in
    let answer = c.in-Ok-utf16_to_utf8 in
    rw c.unit_bulk-in-Ok-utf16_to_utf8.ensures
    (utf16_is_bulk order c.args.bytes.now _ c.utf16_to_utf8-in-Err-LoneSurrogate.new.bytes c.utf16_to_utf8.new.bytes paired answer.written
    (length c.utf16_to_utf8.new.bytes) some room read answer.ensures.answer answer.ensures.scalars answer.ensures.form answer.ensures.written)

pub returns-in-Err : goal.returns-in-Err
returns-in-Err c = nothing_is_bulk (falls_of _ (utf16_holding c.args.order)) _ _ c.args.bytes.now _

pub returns-in-Err-NeedsRoom : goal.returns-in-Err-NeedsRoom
returns-in-Err-NeedsRoom c = nothing_is_bulk (falls_of _ (utf16_holding c.args.order)) _ _ c.args.bytes.now _
