use Rattle.std.proofs.Common.{◌-◌, arith, rules}
use Rattle.index_loader.proofs.CellLemmas.{cells-last, cells-none}
use Rattle.index_loader.proofs.first_pointers.last_up_to.Goals as goal

pub returns-then-cells-at-gt0 : goal.returns-then-cells-at-gt0
returns-then-cells-at-gt0 c =
    cells-last c.args.cells.now (c.loop-at.at - 1) c.args.code_point (search rules) (search rules)
    (λ k lt le. c.loop-at.invariant.none k (omega (arith, c.loop-at-test.true)) le)

pub returns : goal.returns
returns c = cells-none c.args.cells.now c.args.code_point (λ k le. c.loop-at.invariant.none k (omega (arith, c.loop-at-test.false)) le)
