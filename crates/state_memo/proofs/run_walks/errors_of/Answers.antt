use Rattle.std.proofs.Common.{arith, get_or}
use Rattle.state_memo.proofs.Walks.{no_run, errors-next, errors-few, items-next}
use Rattle.state_memo.proofs.run_walks.errors_of.Goals as goal

pub overflow_add-count : goal.overflow_add-count
overflow_add-count c =
    let runs = c.args.runs.now in
    let next = errors-next (get_or runs c.runs.run-index no_run) _ _ (items-next runs c.runs.run-index c.runs-test.true) in
    omega (arith, next, c.runs.invariant, c.errors-count.ensures, errors-few runs, c.requires)

pub runs-preserved : goal.runs-preserved
runs-preserved c =
    let runs = c.args.runs.now in
    let next = errors-next (get_or runs c.runs.run-index no_run) _ _ (items-next runs c.runs.run-index c.runs-test.true) in
    omega (arith, next, c.runs.invariant, c.errors-count.ensures)
