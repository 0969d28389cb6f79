use Rattle.std.proofs.Common.{length, w64, to_z-of_z}
use Rattle.decoder_core.specs.Queue.{feed}
use Rattle.codec.specs.Any.{any}
use Rattle.streams.proofs.Checked.{part-is}
use Rattle.streams.proofs.checker.Checker.decode.Goals as goal

pub returns-clause-part : goal.returns-clause-part
returns-clause-part c =
    let room = rw (← c.self.view_is) at c.requires in
    let d = c.in_ok-finish.ensures in
    let same = to_z-of_z {w = w64} c.in_ok-distance.ensures.signed in
    rw (← c.self.view_is)
    (part-is _ (length c.args.bytes.now) c.in_ok-distance.field-0 (feed (any c.self.inside.decoder) c.self.inside.state c.args.bytes.now).items
    c.new-text.result c.decode_part.new.text c.in_ok-finish.field-0 room c.distance.ensures.fits.0 c.in_ok-distance.ensures.value
    (rw same at c.new-text.ensures)
    c.in_ok-after.ensures.items d.text d.end d.errors)
