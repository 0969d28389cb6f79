use Rattle.line_protocol.proofs.Prelude.{IfOk-weaker}
use Rattle.line_protocol.proofs.ops.hello.HelloSerialize.serialize.Goals as goal

-- the members one in another, each with the events so far after its key and after its value
pub returns : goal.returns
returns g c =
    let written = g.S.Serializer.written in
    let list = rw c.as_slice.ensures at c.in_ok-send_list.ensures in
    IfOk-weaker c.end_map.result _ _
    (λ _ ended. (
      written c.begin_map.new.self,
      c.in_ok-begin_map.ensures,
      (
        written c.key.new.self,
        written c.u64.new.self,
        c.in_ok-key.ensures,
        c.in_ok-u64.ensures,
        (
          written c.key-2.new.self,
          written c.u64-2.new.self,
          c.in_ok-key-2.ensures,
          c.in_ok-u64-2.ensures,
          (
            written c.key-3.new.self,
            written c.u64-3.new.self,
            c.in_ok-key-3.ensures,
            c.in_ok-u64-3.ensures,
            (
              written c.key-4.new.self,
              written c.send_list.new.out,
              c.in_ok-key-4.ensures,
              list,
              (
                written c.key-5.new.self,
                written c.u64-4.new.self,
                c.in_ok-key-5.ensures,
                c.in_ok-u64-4.ensures,
                (
                  written c.key-6.new.self,
                  written c.u64-5.new.self,
                  c.in_ok-key-6.ensures,
                  c.in_ok-u64-5.ensures,
                  (
                    written c.key-7.new.self,
                    written c.str.new.self,
                    c.in_ok-key-7.ensures,
                    c.in_ok-str.ensures,
                    (written c.key-8.new.self, written c.u64-6.new.self, c.in_ok-key-8.ensures, c.in_ok-u64-6.ensures, ended),
                  ),
                ),
              ),
            ),
          ),
        ),
      ),
    ))
    c.end_map.ensures
