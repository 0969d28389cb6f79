use Rattle.streams.proofs.{Checked.ends-check, Lifting.OnOk-weaker}
use Rattle.streams.proofs.checker.Checker.check_end.Goals as goal

pub returns : goal.returns
returns c =
    OnOk-weaker c.add.result
    (λ is. ends-check c.args.last.now c.args.self.now c.name_last.new.self c.add.new.self c.in_ok-decoded.decoded c.in_ok-decoded.ensures.part
    c.in_ok-name_last.ensures is)
    c.add.ensures
