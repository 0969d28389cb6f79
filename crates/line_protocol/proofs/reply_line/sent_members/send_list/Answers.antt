use Rattle.line_protocol.proofs.{Prelude.IfOk-weaker, SentLines.as-many-items}
use Rattle.line_protocol.proofs.reply_line.sent_members.send_list.Goals as goal

pub returns : goal.returns
returns g c =
    let begun = rw (as-many-items g.T.Item.json c.args.items.now) at c.in_ok-begin_seq.ensures in
    IfOk-weaker c.send_items.result _ _ (λ _ sent. (g.S.Serializer.written c.begin_seq.new.self, begun, sent)) c.send_items.ensures
