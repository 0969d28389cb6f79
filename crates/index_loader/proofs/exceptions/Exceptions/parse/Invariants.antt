use Rattle.std.proofs.Common.{◌≡◌, ◌+◌, ◌≤◌, length, option_copied, Ok}
use Rattle.index_loader.proofs.Prelude.{option_map_or, exceptions_from, exceptions_parsed, parts_behind}
use Rattle.index_loader.proofs.exceptions.Exceptions.parse.Given as goal

abbrev pub invariant-loop-rest : goal.invariant-loop-rest
invariant-loop-rest l = record {
  parsed : exceptions_parsed l.fn.bytes ≡ exceptions_from (Ok l.exceptions) (l.number + 1) (parts_behind 0x0A (option_copied l.rest));
  count : option_map_or (λ text. l.number + length text.now) l.rest 0 ≤ length l.fn.bytes;
}

abbrev pub decreases-loop-rest : goal.decreases-loop-rest
decreases-loop-rest l = option_map_or (λ text. length text.now + 1) l.rest 0
