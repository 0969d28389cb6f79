use Rattle.std.proofs.Common.{sym}
use Rattle.index_loader.proofs.Places.{code_point-in_table}
use Rattle.index_loader.proofs.by_pointer.ByPointer.find.Goals as goal

pub returns-in-Table : goal.returns-in-Table
returns-in-Table c = rw (c.code_point.ensures, c.in-Table.is) (sym (code_point-in_table c.in-Table.table c.args.pointer))
