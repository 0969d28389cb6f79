use Rattle.std.proofs.Common.{arith, sym, ◌∙◌}
use Rattle.state_memo.proofs.Walks.{found-here, found-next, items-first, items-none, length-few, length-next, run-within}
use Rattle.state_memo.proofs.shaped_walks.number_shaped.Goals as goal

pub overflow_add-result : goal.overflow_add-result
overflow_add-result c =
    let run = c.in-Some.run' in
    let next = length-next run _ _ (items-first c.runs.runs run c.in-Some.ensures) in
    let within = run-within run c.runs.left c.in-Some-item_of.k c.in-Some-item_of.ensures.some in
    omega (arith, next, within, c.runs.invariant.1, length-few c.args.shaped.now, c.requires)

pub returns-in-Some-item_of : goal.returns-in-Some-item_of
returns-in-Some-item_of c =
    let parts = items-first c.runs.runs c.in-Some.run' c.in-Some.ensures in
    sym (found-here c.in-Some.run' _ _ parts c.runs.left c.in-Some-item_of.k c.runs.before c.in-Some-item_of.ensures.some) ∙ c.runs.invariant.0

pub overflow_add-before : goal.overflow_add-before
overflow_add-before c =
    let next = length-next c.in-Some.run' _ _ (items-first c.runs.runs c.in-Some.run' c.in-Some.ensures) in
    omega (arith, next, c.count-before.ensures, c.runs.invariant.1, length-few c.args.shaped.now, c.requires)

pub runs-preserved : goal.runs-preserved
runs-preserved c =
    let parts = items-first c.runs.runs c.in-Some.run' c.in-Some.ensures in (
      rw (c.advance.ensures, c.count-before.ensures, c.scalars-left.ensures)
          (found-next c.in-Some.run' _ _ parts c.runs.left c.runs.before c.in_default-item_of.ensures.none ∙ c.runs.invariant.0),
      rw c.advance.ensures (omega (arith, length-next c.in-Some.run' _ _ parts, c.count-before.ensures, c.runs.invariant.1)),
    )

pub returns : goal.returns
returns c = rw (items-none c.runs.runs c.in_default.ensures) at c.runs.invariant.0
