-- Shift_JIS (Encoding Standard, "Shift_JIS decoder").
use Rattle.std.specs.Prelude.{ℕ, ◌+◌, ◌-◌, Bool, ◌||◌, nat_le, nat_lt, Option, Some, if◌then◌else◌}
use Rattle.decoder_core.specs.{declared.item.Item.Item, declared.item.Item.TheVariants.One, declared.item.Item.TheVariants.Error, Forms.within}
use Rattle.multibyte_decoders.specs.Pairs.{PairRule, one_of}

abbrev pub is_shift_jis_lead : ℕ → Bool
is_shift_jis_lead b = within 0x81 0x9F b || within 0xE0 0xFC b

abbrev pub is_shift_jis_trail : ℕ → Bool
is_shift_jis_trail b = within 0x40 0x7E b || within 0x80 0xFC b

-- a byte that isn't a lead: ASCII, 80 and half-width katakana
abbrev pub shift_jis_single : ℕ → Item
shift_jis_single b =
    if nat_le b 0x80 then One b
    else if within 0xA1 0xDF b then One (0xFF61 - 0xA1 + b)
    else Error

-- a pointer's code point: the user-defined range is private use, all else is index jis0208
abbrev pub shift_jis_code_point : (ℕ → Option ℕ) → ℕ → Option ℕ
shift_jis_code_point jis0208 pointer =
    if within 8836 10715 pointer then Some (0xE000 - 8836 + pointer) else jis0208 pointer

abbrev pub shift_jis : PairRule
shift_jis = record {
  is_lead = is_shift_jis_lead;
  single = shift_jis_single;
  is_trail = is_shift_jis_trail;
  row = λ lead. lead - (if nat_lt lead 0xA0 then 0x81 else 0xC1);
  column = λ b. b - (if nat_lt b 0x7F then 0x40 else 0x41);
  columns = 188;
  item = λ jis0208 pointer. one_of (shift_jis_code_point jis0208 pointer);
}
