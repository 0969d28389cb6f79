use Rattle.index_loader.proofs.IndexLemmas.{table-forms}
use Rattle.index_loader.proofs.index.Index.forms.Goals as goal

pub returns-in-Table : goal.returns-in-Table
returns-in-Table c = rw (← c.self.view_is) (table-forms c.self.invariant c.in-Table.table _ c.in-Table.is c.forms.ensures)
