use Rattle.std.proofs.Common.{arith, get_or, to_z, of_z, w64}
use Rattle.state_memo.proofs.{Prelude.items_of_runs, Walks.no_run, Walks.before-next, Walks.before-few, Walks.items-next}
use Rattle.state_memo.proofs.run_walks.scalars_until.Goals as goal

pub overflow_add-count : goal.overflow_add-count
overflow_add-count c =
    let limit = to_z w64 (of_z w64 c.args.limit) in
    let runs = c.args.runs.now in
    let next = before-next (get_or runs c.runs.run-index no_run) _ _ (items-next runs c.runs.run-index c.runs-test.true) limit in
    omega (arith, next, c.runs.invariant, c.scalars_before-count.ensures, before-few limit (items_of_runs runs), c.requires)

pub runs-preserved : goal.runs-preserved
runs-preserved c =
    let limit = to_z w64 (of_z w64 c.args.limit) in
    let runs = c.args.runs.now in
    let next = before-next (get_or runs c.runs.run-index no_run) _ _ (items-next runs c.runs.run-index c.runs-test.true) limit in
    omega (arith, next, c.runs.invariant, c.scalars_before-count.ensures)
