use Rattle.std.proofs.Common.{ap, rules, ◌∙◌, ◌+◌, min}
use Rattle.index_loader.proofs.Digits.{all-digits_more, capped-digits_more}
use Rattle.index_loader.proofs.field.number_in.Goals as goal

pub loop-byte-preserved : goal.loop-byte-preserved
loop-byte-preserved c = record {
  digits = all-digits_more c.args.base c.args.text.now c.loop-byte.byte-index (search rules) c.loop-byte.invariant.digits (search rules);
  value =
      c.saturating_add-number.ensures
      ∙ ap (λ n. min (c.saturating_mul.result + n) 0xFFFF_FFFF) c.digit_value-digit.ensures
      ∙ capped-digits_more c.args.base c.args.text.now c.loop-byte.byte-index c.loop-byte.number c.saturating_mul.result 0xFFFF_FFFF
      (search rules) (search rules) c.loop-byte.invariant.value c.saturating_mul.ensures;
}
