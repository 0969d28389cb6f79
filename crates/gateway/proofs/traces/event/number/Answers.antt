use Rattle.std.proofs.Common.{arith, sym, ◌∙◌, ap, ◌&&◌, nat_le}
use Rattle.gateway.proofs.{Prelude.number_in, Words.no_number, Words.no_text, Words.not_parsed, Words.other_parsed, Words.this_number}
use Rattle.gateway.proofs.traces.event.number.Goals as goal

pub returns-in_default : goal.returns-in_default
returns-in_default c = no_text 8 255 (omega arith) (omega arith) number_in no_number c.args.word.now c.in_default.ensures.cases.0

pub returns-in_default-from_str_radix : goal.returns-in_default-from_str_radix
returns-in_default-from_str_radix c =
    not_parsed 8 255 (omega arith) (omega arith) number_in no_number c.args.word.now c.in_default-from_str_radix.field-0
    (rw c.in-Ok.ensures.cases.0 at c.in_default-from_str_radix.ensures.value)

pub returns-then-is_decimal : goal.returns-then-is_decimal
returns-then-is_decimal c = this_number c.in-Ok-from_str_radix.n c.args.word.now (omega arith) (sym c.is_decimal.ensures ∙ c.if-is_decimal.true)

pub returns-else-is_decimal : goal.returns-else-is_decimal
returns-else-is_decimal c =
    other_parsed 8 255 (omega arith) (omega arith) number_in no_number c.args.word.now c.from_str_radix.result c.in-Ok-from_str_radix.n
    c.in-Ok-from_str_radix.is (rw c.in-Ok.ensures.cases.0 at c.from_str_radix.ensures.value)
    (ap (λ b. b && nat_le c.in-Ok-from_str_radix.n 255) (sym c.is_decimal.ensures ∙ c.if-is_decimal.false))
