use Rattle.std.proofs.{Common.◌+◌, Common.rules, Common.refl, lemmas.List.length-replicate}
use Rattle.index_loader.proofs.Places.{pairs_at-empty}
use Rattle.index_loader.proofs.by_pointer.ByPointer.new.Goals as goal

pub returns : goal.returns
returns c = record {
  empty = rw c.in_ok-new.ensures (pairs_at-empty 0 (c.greatest_pointer.result + 1));
  rows_kept = search (rules, c.if-is_ranges.false, c.is_ranges.ensures);
  room = rw (c.in_ok-new.ensures, length-replicate, c.greatest_pointer.ensures, ← c.is_ranges.ensures, c.if-is_ranges.false) refl;
}
