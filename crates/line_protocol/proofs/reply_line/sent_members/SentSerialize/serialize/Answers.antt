use Rattle.line_protocol.proofs.{Prelude.IfOk-weaker, SentLines.as-many}
use Rattle.line_protocol.proofs.reply_line.sent_members.SentSerialize.serialize.Goals as goal

pub returns : goal.returns
returns g c =
    let begun = rw (as-many c.args.self.now.members.now) at c.in_ok-begin_map.ensures in
    IfOk-weaker c.send_members.result _ _ (λ _ sent. (g.S.Serializer.written c.begin_map.new.self, begun, sent)) c.send_members.ensures
