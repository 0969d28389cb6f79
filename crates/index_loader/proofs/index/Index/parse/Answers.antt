use Rattle.index_loader.proofs.FileLawLemmas.{reading-fault, reading-pairs}
use Rattle.index_loader.proofs.index.Index.parse.Goals as goal

pub returns-clause-pairs : goal.returns-clause-pairs
returns-clause-pairs c = reading-pairs c.args.kind c.args.bytes.now c.read.result c.read.ensures

pub returns-clause-first_fault : goal.returns-clause-first_fault
returns-clause-first_fault c = reading-fault c.args.kind c.args.bytes.now c.read.result c.read.ensures
