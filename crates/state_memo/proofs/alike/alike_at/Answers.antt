use Rattle.std.proofs.Common.{refl, arith}
use Rattle.state_memo.proofs.Walking.{alike-part}
use Rattle.state_memo.proofs.alike.alike_at.Goals as goal

pub returns-in-Some-0-to-127-clause-alike : goal.returns-in-Some-0-to-127-clause-alike
returns-in-Some-0-to-127-clause-alike c =
    alike-part c.args.bytes.now c.args.bytes.now c.args.at 1 c.ascii_front.result c.ascii_front.result c.ascii_front.result refl
    c.ascii_front.ensures (omega arith)

pub returns-in-Some-128-to-223-clause-alike : goal.returns-in-Some-128-to-223-clause-alike
returns-in-Some-128-to-223-clause-alike c =
    alike-part c.args.bytes.now c.args.bytes.now c.args.at 2 c.wide_front.result c.wide_front.result c.wide_front.result refl c.wide_front.ensures (omega arith)

pub returns-in-Some-224-to-239-clause-alike : goal.returns-in-Some-224-to-239-clause-alike
returns-in-Some-224-to-239-clause-alike c =
    alike-part c.args.bytes.now c.args.bytes.now c.args.at 3 c.wide_front-in-Some-224-to-239.result c.wide_front-in-Some-224-to-239.result
    c.wide_front-in-Some-224-to-239.result refl c.wide_front-in-Some-224-to-239.ensures (omega arith)

pub returns-in-Some-clause-alike : goal.returns-in-Some-clause-alike
returns-in-Some-clause-alike c =
    alike-part c.args.bytes.now c.args.bytes.now c.args.at 4 c.wide_front-in-Some.result c.wide_front-in-Some.result
    c.wide_front-in-Some.result refl c.wide_front-in-Some.ensures (omega arith)
