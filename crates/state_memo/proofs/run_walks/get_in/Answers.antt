use Rattle.std.proofs.Common.{◌+◌, ◌<◌, ◌≤◌, arith, ◌∙◌, get_or}
use Rattle.state_memo.proofs.Walks.{no_run, get-here, get-next, items-next}
use Rattle.state_memo.proofs.run_walks.get_in.Goals as goal

pub returns-then-left-count : goal.returns-then-left-count
returns-then-left-count c =
    let run = get_or c.args.runs.now c.runs.run-index no_run in
    let few : c.runs.left < run.more + 1 = omega (arith, c.if-left-count.true, c.count-count.ensures) in
    c.item.ensures ∙ get-here run _ _ (items-next c.args.runs.now c.runs.run-index c.runs-test.true) c.runs.left few ∙ c.runs.invariant

pub runs-preserved : goal.runs-preserved
runs-preserved c =
    let run = get_or c.args.runs.now c.runs.run-index no_run in
    let many : run.more + 1 ≤ c.runs.left = omega (arith, c.if-left-count.false, c.count-count.ensures) in
    rw c.count-count.ensures (get-next run _ _ (items-next c.args.runs.now c.runs.run-index c.runs-test.true) c.runs.left many ∙ c.runs.invariant)
