use Rattle.std.proofs.Common.{◌≡◌, min, take, true}
use Rattle.index_loader.proofs.Prelude.{is_digit, list_all, digits_value}
use Rattle.index_loader.proofs.field.number_in.Given as goal

abbrev pub invariant-loop-byte : goal.invariant-loop-byte
invariant-loop-byte l = record {
  digits : list_all (λ b. is_digit b l.fn.base) (take l.byte-index l.text) ≡ true;
  value : l.number ≡ min (digits_value l.fn.base (take l.byte-index l.text)) 0xFFFF_FFFF;
}
