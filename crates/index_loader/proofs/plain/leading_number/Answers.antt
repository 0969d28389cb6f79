use Rattle.std.proofs.{Common.rules, lemmas.Int.Digits.digits_value_more}
use Rattle.index_loader.proofs.Digits.{all-digits_more}
use Rattle.index_loader.proofs.plain.leading_number.Goals as goal

pub loop-at-preserved : goal.loop-at-preserved
loop-at-preserved c = record {
  within = search rules;
  digits = all-digits_more c.args.base c.args.text.now c.loop-at.at (search rules) c.loop-at.invariant.digits (search rules);
  value = rw (c.loop-at.invariant.value, c.digit_value-digit.ensures, digits_value_more c.args.base c.args.text.now c.loop-at.at (search rules));
}
