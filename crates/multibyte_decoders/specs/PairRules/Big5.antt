-- Big5 (Encoding Standard, "Big5 decoder").
use Rattle.std.specs.Prelude.{ℕ, ◌-◌, Bool, ◌||◌, nat_lt, ◌==◌, Option, Some, if◌then◌else◌}
use Rattle.decoder_core.specs.{declared.item.Item.Item, declared.item.Item.TheVariants.Two, Forms.within}
use Rattle.multibyte_decoders.specs.Pairs.{PairRule, ascii_item, one_of}

abbrev pub is_big5_trail : ℕ → Bool
is_big5_trail b = within 0x40 0x7E b || within 0xA1 0xFE b

-- a pointer's item: four pointers give two code points, all else is index Big5
abbrev pub big5_item : (ℕ → Option ℕ) → ℕ → Option Item
big5_item index pointer =
    if pointer == 1133 then Some (Two 0xCA 0x304)
    else if pointer == 1135 then Some (Two 0xCA 0x30C)
    else if pointer == 1164 then Some (Two 0xEA 0x304)
    else if pointer == 1166 then Some (Two 0xEA 0x30C)
    else one_of (index pointer)

abbrev pub big5 : PairRule
big5 = record {
  is_lead = within 0x81 0xFE;
  single = ascii_item;
  is_trail = is_big5_trail;
  row = λ lead. lead - 0x81;
  column = λ b. b - (if nat_lt b 0x7F then 0x40 else 0x62);
  columns = 157;
  item = big5_item;
}
