use Rattle.std.proofs.Common.{ap, is_some, sym}
use Rattle.index_loader.proofs.Places.{code_point-in_table}
use Rattle.index_loader.proofs.by_pointer.ByPointer.has.Goals as goal

pub returns-in-Table : goal.returns-in-Table
returns-in-Table c = rw (c.has.ensures, c.in-Table.is) (ap is_some (sym (code_point-in_table c.in-Table.table c.args.pointer)))
