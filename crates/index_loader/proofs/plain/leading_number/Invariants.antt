use Rattle.std.proofs.Common.{◌≡◌, ◌-◌, ◌≤◌, length, take, true}
use Rattle.index_loader.proofs.Prelude.{is_digit, list_all, digits_value}
use Rattle.index_loader.proofs.plain.leading_number.Given as goal

abbrev pub invariant-loop-at : goal.invariant-loop-at
invariant-loop-at l = record {
  within : l.at ≤ length l.fn.text;
  digits : list_all (λ b. is_digit b l.fn.base) (take l.at l.fn.text) ≡ true;
  value : l.number ≡ digits_value l.fn.base (take l.at l.fn.text);
}

abbrev pub decreases-loop-at : goal.decreases-loop-at
decreases-loop-at l = length l.fn.text - l.at
