use Rattle.std.proofs.Common.{◌≡◌, replicate, rules}
use Rattle.index_loader.proofs.CellLemmas.{cells-empty}
use Rattle.index_loader.proofs.first_pointers.FirstPointers.new.Goals as goal

pub returns : goal.returns
returns c = let empty : c.in_ok-cells.cells.items ≡ replicate c.args.len 0 = search rules in rw empty (cells-empty 0 c.args.len)
