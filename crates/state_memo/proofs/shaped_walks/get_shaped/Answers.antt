use Rattle.std.proofs.Common.{◌+◌, ◌<◌, ◌≤◌, arith, ◌∙◌}
use Rattle.state_memo.proofs.Walks.{get-here, get-next, items-first, items-none}
use Rattle.state_memo.proofs.shaped_walks.get_shaped.Goals as goal

pub returns-then-left-count : goal.returns-then-left-count
returns-then-left-count c =
    let run = c.in-Some.run' in
    let few : c.runs.left < run.more + 1 = omega (arith, c.if-left-count.true, c.count-count.ensures) in
    c.item.ensures ∙ get-here run _ _ (items-first c.runs.runs run c.in-Some.ensures) c.runs.left few ∙ c.runs.invariant

pub runs-preserved : goal.runs-preserved
runs-preserved c =
    let run = c.in-Some.run' in
    let many : run.more + 1 ≤ c.runs.left = omega (arith, c.if-left-count.false, c.count-count.ensures) in
    rw (c.advance.ensures, c.count-count.ensures) (get-next run _ _ (items-first c.runs.runs run c.in-Some.ensures) c.runs.left many ∙ c.runs.invariant)

pub returns : goal.returns
returns c = rw (items-none c.runs.runs c.in_default.ensures) at c.runs.invariant
