use Rattle.std.proofs.Common.{Ok}
use Rattle.std.proofs.lemmas.Str.{chars-nil}
use Rattle.streams.proofs.Streaming.{begins, first-part, never-lacks}
use Rattle.streams.proofs.stream.begin.Goals as goal

pub unreachable-requires : goal.unreachable-requires
unreachable-requires g c =
    let fault = rw c.in-Err-Encode-Unencodable.field-0-is at c.in-Err-Encode-Unencodable.field-0-0-is in
    let h = rw (c.in-Err-Encode-Unencodable.field-0-is, fault, chars-nil) at c.in-Err-Encode-Unencodable.ensures.put in
    never-lacks c.args.indexes.now c.args.conversion c.in-Some.converter c.in-Some.ensures.starts c.law_parts.ensures.before _ h.0

pub returns-in-Ok-clause-ok : goal.returns-in-Ok-clause-ok
returns-in-Ok-clause-ok g c =
    let h = rw chars-nil at c.in-Ok.ensures.put in
    begins c.args.indexes.now c.args.conversion c.in-Some.converter c.in-Some.ensures.starts h.0 h.1 _ h.2 _ _ h.3

pub returns-in-Err-Write-clause-err : goal.returns-in-Err-Write-clause-err
returns-in-Err-Write-clause-err g c =
    let h = rw (c.in-Err-Write.field-0-is, chars-nil) at c.in-Err-Write.ensures.put in
    (h.0, first-part c.args.indexes.now c.args.conversion c.in-Some.converter c.in-Some.ensures.starts (Ok h.0) h.1, h.3)
