use Rattle.std.proofs.Common.{sym}
use Rattle.index_loader.proofs.RowLemmas.{found-row, no-row, other-row}
use Rattle.index_loader.proofs.rows.Rows.find.Goals as goal

pub returns-in_err-start : goal.returns-in_err-start
returns-in_err-start c = rw c.from_residual.ensures (sym (no-row c.args.self.now c.args.pointer c.in_err-start.ensures.row))

pub returns-then-start-pointer : goal.returns-then-start-pointer
returns-then-start-pointer c =
    sym (found-row c.args.self.now c.in_ok-start.ensures.order c.args.pointer (c.in_ok-start.start, c.in_ok-start.first)
    c.in_ok-start.ensures.row c.if-start-pointer.true)

pub returns-else-start-pointer : goal.returns-else-start-pointer
returns-else-start-pointer c =
    sym (other-row c.args.self.now c.args.pointer (c.in_ok-start.start, c.in_ok-start.first) c.in_ok-start.ensures.row c.if-start-pointer.false)
