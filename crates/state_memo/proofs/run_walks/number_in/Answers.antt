use Rattle.std.proofs.Common.{arith, sym, ◌∙◌, get_or}
use Rattle.state_memo.proofs.Walks.{no_run, items-next, length-few, length-next, run-within, found-here, found-next}
use Rattle.state_memo.proofs.run_walks.number_in.Goals as goal

pub overflow_add-result : goal.overflow_add-result
overflow_add-result c =
    let runs = c.args.runs.now in
    let run = get_or runs c.runs.run-index no_run in
    let next = length-next run _ _ (items-next runs c.runs.run-index c.runs-test.true) in
    let within = run-within run c.runs.left c.in-Some.k c.in-Some.ensures.some in
    omega (arith, next, within, c.runs.invariant.1, length-few runs, c.requires)

pub returns-in-Some : goal.returns-in-Some
returns-in-Some c =
    let runs = c.args.runs.now in
    let parts = items-next runs c.runs.run-index c.runs-test.true in
    sym (found-here (get_or runs c.runs.run-index no_run) _ _ parts c.runs.left c.in-Some.k c.runs.before c.in-Some.ensures.some) ∙ c.runs.invariant.0

pub overflow_add-before : goal.overflow_add-before
overflow_add-before c =
    let runs = c.args.runs.now in
    let next = length-next (get_or runs c.runs.run-index no_run) _ _ (items-next runs c.runs.run-index c.runs-test.true) in
    omega (arith, next, c.count-before.ensures, c.runs.invariant.1, length-few runs, c.requires)

pub runs-preserved : goal.runs-preserved
runs-preserved c =
    let runs = c.args.runs.now in
    let run = get_or runs c.runs.run-index no_run in
    let parts = items-next runs c.runs.run-index c.runs-test.true in (
      rw (c.count-before.ensures, c.scalars-left.ensures) (found-next run _ _ parts c.runs.left c.runs.before c.in_default.ensures.none ∙ c.runs.invariant.0),
      omega (arith, length-next run _ _ parts, c.count-before.ensures, c.runs.invariant.1),
    )
