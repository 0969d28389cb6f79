use Rattle.std.proofs.Common.{arith, ap}
use Rattle.state_memo.proofs.{Prelude.errors_in, Walks.errors-next, Walks.errors-few, Walks.items-first, Walks.items-none}
use Rattle.state_memo.proofs.shaped_walks.errors_shaped.Goals as goal

pub overflow_add-count : goal.overflow_add-count
overflow_add-count c =
    let next = errors-next c.in-Some.run' _ _ (items-first c.runs.runs c.in-Some.run' c.in-Some.ensures) in
    omega (arith, next, c.runs.invariant, c.errors-count.ensures, errors-few c.args.shaped.now, c.requires)

pub runs-preserved : goal.runs-preserved
runs-preserved c =
    let next = errors-next c.in-Some.run' _ _ (items-first c.runs.runs c.in-Some.run' c.in-Some.ensures) in
    rw c.advance.ensures (omega (arith, next, c.runs.invariant, c.errors-count.ensures))

pub returns : goal.returns
returns c = omega (arith, ap errors_in (items-none c.runs.runs c.in_default.ensures), c.runs.invariant)
