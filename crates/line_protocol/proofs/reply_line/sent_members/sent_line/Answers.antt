use Rattle.line_protocol.proofs.{Prelude.IfOk-weaker, SentLines.line-of}
use Rattle.line_protocol.proofs.reply_line.sent_members.sent_line.Goals as goal

pub returns : goal.returns
returns c = IfOk-weaker c.serialized_line.result _ _ (λ line sent. line-of c.args.members.now line.items sent) c.serialized_line.ensures
