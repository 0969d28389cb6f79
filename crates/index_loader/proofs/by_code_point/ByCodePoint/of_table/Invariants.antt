use Rattle.std.proofs.Common.{◌≤◌, length, take}
use Rattle.index_loader.proofs.{CellLemmas.AreTaken, Prelude.pairs_in}
use Rattle.index_loader.proofs.by_code_point.ByCodePoint.of_table.Given as goal

abbrev pub invariant-loop-pointer : goal.invariant-loop-pointer
invariant-loop-pointer l = record {
  within : l.pointer ≤ length l.table;
  taken : AreTaken (pairs_in l.table) (pairs_in (take l.pointer l.table)) l.firsts l.others.items;
}

abbrev pub decreases-loop-pointer : goal.decreases-loop-pointer
decreases-loop-pointer l = l.pointer
