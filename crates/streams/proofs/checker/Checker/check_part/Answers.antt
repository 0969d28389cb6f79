use Rattle.streams.proofs.Checked.{part-checked}
use Rattle.streams.proofs.checker.Checker.check_part.Goals as goal

pub returns : goal.returns
returns c =
    part-checked c.args.bytes.now c.args.self.now c.name_errors.new.self c.add.new.self c.go_on.new.self c.in_ok-decoded.decoded c.in_ok-decoded.after
    c.in_ok-total.total c.in_ok-total.ensures c.in_ok-decoded.ensures.part c.in_ok-decoded.ensures.state c.in_ok-name_errors.ensures c.in_ok-add.ensures
    c.go_on.ensures.head c.go_on.ensures.others
