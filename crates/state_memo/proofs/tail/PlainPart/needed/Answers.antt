use Rattle.std.proofs.Common.{◌∙◌, sym}
use Rattle.state_memo.proofs.{CodePoints.ones-even, CodePoints.utf8-run, Prelude.Utf8}
use Rattle.state_memo.proofs.tail.PlainPart.needed.Goals as goal

pub returns-then-ne-clause-long : goal.returns-then-ne-clause-long
returns-then-ne-clause-long c = λ cs p. ones-even Utf8 c.args.self.count c.args.self.len cs p.count (p.len ∙ sym (utf8-run cs)) c.if-self.true
