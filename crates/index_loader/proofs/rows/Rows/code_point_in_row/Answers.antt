use Rattle.index_loader.proofs.RowLemmas.{code_point-in_row, pointer-none}
use Rattle.index_loader.proofs.rows.Rows.code_point_in_row.Goals as goal

pub returns-in_err-start : goal.returns-in_err-start
returns-in_err-start c = rw (c.from_residual.ensures, pointer-none _ _ c.in_err-start.ensures.row)

pub returns : goal.returns
returns c = code_point-in_row _ c.in_ok-start.ensures.order c.args.pointer (c.in_ok-start.start, c.in_ok-start.first)
    c.in_ok-start.ensures.row _ (rw (← c.get.ensures.value) c.new.ensures)
