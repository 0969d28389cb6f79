use Rattle.std.proofs.Common.{[], append-nil, sym}
use Rattle.std.specs.Str.{chars}
use Rattle.streams.proofs.converter.Converter.put_decoded.Goals as goal

pub returns-in-Err-Write : goal.returns-in-Err-Write
returns-in-Err-Write g c =
    let h = rw c.in-Err-Write.field-0-is at c.in-Err-Write.ensures.put in
    (chars c.args.text.now, [], c.args.is_last, h.0, λ is. is, sym (append-nil (chars c.args.text.now)), h.1, h.3)
