-- The gb18030 decoder, which is GBK's decoder too (Encoding Standard, "gb18030 decoder" and "GBK decoder").
use Rattle.std.specs.Prelude.{ℕ, ◌+◌, ◌-◌, ◌*◌, ◌||◌, nat_lt, ◌==◌, [], ◌∷◌, Option, Some, None, if◌then◌else◌}
use Rattle.decoder_core.specs.declared.item.Item.TheVariants.{One, Error}
use Rattle.decoder_core.specs.{Queue.Turn, Forms.found, Forms.gives, Forms.holds, Forms.finishes, Forms.within}
use Rattle.index_loader.specs.Index.{Loaded}
use Rattle.multibyte_decoders.specs.declared.gb18030.Gb18030State.{Gb18030State, TheVariants.Idle, TheVariants.First, TheVariants.Second, TheVariants.Third}
use Rattle.multibyte_decoders.specs.Pairs.{PairRule, ascii_item, begins, completes, one_of, pair_item}

-- single bytes, and pairs in index gb18030
abbrev pub gb18030_pairs : PairRule
gb18030_pairs = record {
  is_lead = within 0x81 0xFE;
  single = λ b. if b == 0x80 then One 0x20AC else ascii_item b;
  is_trail = λ b. within 0x40 0x7E b || within 0x80 0xFE b;
  row = λ first. first - 0x81;
  column = λ b. b - (if nat_lt b 0x7F then 0x40 else 0x41);
  columns = 190;
  item = λ index pointer. one_of (index pointer);
}

-- the pointer of four bytes
abbrev pub gb18030_four : ℕ → ℕ → ℕ → ℕ → ℕ
gb18030_four first second third b =
    (first - 0x81) * 12600 + (second - 0x30) * 1260 + (third - 0x81) * 10 + (b - 0x30)

-- four bytes without a code point put nothing back
abbrev pub gb18030 : (ℕ → Option ℕ) → (ℕ → Option ℕ) → Gb18030State → Option ℕ → Turn Gb18030State
gb18030 index ranges Idle None = finishes Idle
gb18030 index ranges (First first) None = gives Idle Error []
gb18030 index ranges (Second first second) None = gives Idle Error []
gb18030 index ranges (Third first second third) None = gives Idle Error []
gb18030 index ranges Idle (Some b) = begins Idle (gb18030_pairs.is_lead b) (First b) (gb18030_pairs.single b)
gb18030 index ranges (First first) (Some b) =
    if within 0x30 0x39 b then holds (Second first b)
    else completes Idle (pair_item gb18030_pairs index first b) b
gb18030 index ranges (Second first second) (Some b) =
    if within 0x81 0xFE b then holds (Third first second b)
    else gives Idle Error (second ∷ b ∷ [])
gb18030 index ranges (Third first second third) (Some b) =
    if within 0x30 0x39 b then gives Idle (found (ranges (gb18030_four first second third b))) []
    else gives Idle Error (second ∷ third ∷ b ∷ [])

-- the decoder's index and its ranges
pub record Gb18030Indexes : Type 0 where
  pub index : Loaded
  pub ranges : Loaded
