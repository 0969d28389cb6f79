use Rattle.std.proofs.Common.{sym}
use Rattle.gateway.proofs.Heads.{none_in_front}
use Rattle.gateway.proofs.traces.head_reader.HeadReader.is_comment.Goals as goal

pub returns-then-count-gt0 : goal.returns-then-count-gt0
returns-then-count-gt0 c =
    sym (none_in_front c.self.inside.comment c.self.inside.begun c.self.inside.parts c.args.bytes.now c.self.inside.lines c.count.result c.args.self.now
    c.self.view_is c.self.invariant c.count.ensures c.if-count-gt0.true)
