use Rattle.index_loader.proofs.LineLemmas.{put-in_table}
use Rattle.index_loader.proofs.by_pointer.ByPointer.put.Goals as goal

pub returns-in-Table-clause-pairs : goal.returns-in-Table-clause-pairs
returns-in-Table-clause-pairs c =
    rw c.set.ensures (put-in_table c.args.self.now c.in-Table.table c.args.pointer c.args.code_point c.in-Table.is c.requires.room c.requires.other)
