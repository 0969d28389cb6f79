use Rattle.std.proofs.Common.{◌≡◌, ◌+◌, ◌≤◌, [], length, option_copied, Ok}
use Rattle.index_loader.proofs.Prelude.{option_map_or, pairs_from, lines_of, parts_behind, is_ranges, table_len}
use Rattle.index_loader.specs.Inside.{keeps_rows, limit_of, pairs_by_pointer}
use Rattle.index_loader.proofs.reading.read_pairs.Given as goal

abbrev pub invariant-loop-rest : goal.invariant-loop-rest
invariant-loop-rest l = record {
  limit : limit_of l.pairs ≡ table_len l.fn.kind;
  rows : keeps_rows l.pairs ≡ is_ranges l.fn.kind;
  parsed : pairs_from l.fn.kind (Ok []) 1 (lines_of l.fn.bytes) ≡ pairs_from l.fn.kind (Ok (pairs_by_pointer l.pairs)) (l.number + 1)
      (parts_behind 0x0A (option_copied l.rest));
  count : option_map_or (λ text. l.number + length text.now) l.rest 0 ≤ length l.fn.bytes;
}

abbrev pub decreases-loop-rest : goal.decreases-loop-rest
decreases-loop-rest l = option_map_or (λ text. length text.now + 1) l.rest 0
