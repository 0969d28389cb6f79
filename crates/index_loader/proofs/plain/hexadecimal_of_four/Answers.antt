use Rattle.std.proofs.Common.{rules}
use Rattle.index_loader.proofs.PlainLemmas.{number-before}
use Rattle.index_loader.proofs.plain.hexadecimal_of_four.Goals as goal

pub returns-then-text-eq9 : goal.returns-then-text-eq9
returns-then-text-eq9 c = record {
  others = _;
  first = number-before 16 c.args.text.now c.four_digits-number.result.1 _ (search rules) (search rules) (search rules)
      (search rules) c.four_digits-number.ensures.digits c.four_digits-number.ensures.value;
}
