use Rattle.line_protocol.proofs.{Prelude.IfOk-weaker, SentLines.hello-whole, SentLines.line-of-data}
use Rattle.line_protocol.specs.Ops.Hello.{hello_data}
use Rattle.line_protocol.proofs.ops.hello.line.Goals as goal

pub returns : goal.returns
returns c =
    let id = c.args.id in
    let reply = c.args.reply.now in
    IfOk-weaker c.serialized_line.result _ _ (λ line sent. line-of-data (hello_data id reply) (hello-whole id reply) line.items sent)
    c.serialized_line.ensures
