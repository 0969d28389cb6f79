use Rattle.std.proofs.Common.{arith}
use Rattle.state_memo.proofs.{Fronts.alike-few, Walking.ascii-alike, Walking.front-alike}
use Rattle.state_memo.proofs.alike.ascii_front.Goals as goal

pub returns-then-others-ne0 : goal.returns-then-others-ne0
returns-then-others-ne0 c = front-alike c.args.bytes.now c.others_in_16-others.result (omega arith) c.others_in_16-others.ensures (omega arith)

pub returns : goal.returns
returns c = alike-few c.args.bytes.now 0 1 c.ascii_run.result c.at_most_a_run.result c.at_most_a_run.ensures
    (ascii-alike c.args.bytes.now c.ascii_run.result c.ascii_run.ensures)
