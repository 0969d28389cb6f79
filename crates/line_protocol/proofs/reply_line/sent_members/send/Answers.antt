use Rattle.line_protocol.proofs.Prelude.{IfOk-weaker}
use Rattle.line_protocol.proofs.reply_line.sent_members.send.Goals as goal

-- the members of a position one in another, each with the events so far after its key and after its value
pub returns-in_ok-u64-in-Point-2 : goal.returns-in_ok-u64-in-Point-2
returns-in_ok-u64-in-Point-2 g c =
    let written = g.S.Serializer.written in
    rw c.in-Point.is (IfOk-weaker c.end_map.result _ _
    (λ _ ended. (
      written c.begin_map.new.self,
      c.in_ok-begin_map-in-Point.ensures,
      (
        written c.key.new.self,
        written c.u64-in-Point.new.self,
        c.in_ok-key-in-Point.ensures,
        c.in_ok-u64-in-Point.ensures,
        (
          written c.key-in-Point.new.self,
          written c.u64-in-Point-2.new.self,
          c.in_ok-key-in-Point-2.ensures,
          c.in_ok-u64-in-Point-2.ensures,
          ended,
        ),
      ),
    ))
    c.end_map.ensures)
