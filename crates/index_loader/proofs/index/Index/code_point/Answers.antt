use Rattle.index_loader.proofs.IndexLemmas.{code_point-table}
use Rattle.index_loader.proofs.index.Index.code_point.Goals as goal

pub returns-in-Table : goal.returns-in-Table
returns-in-Table c = rw (← c.self.view_is, c.code_point.ensures) (code_point-table c.self.invariant c.in-Table.table c.args.pointer c.in-Table.is)
