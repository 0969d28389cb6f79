-- What a collector of placed items holds.
use Rattle.std.specs.Prelude.{ℕ, ◌-◌, List, [], ◌∷◌, ◌++◌, ℤ, pos, ◌+ℤ◌}
use Rattle.std.specs.Int.{saturate_unsigned, w64}
use Rattle.decoder_core.specs.{declared.item.Ended.Ended, declared.item.Item.Item, declared.placed.Placed.Placed, Placed.places, Shown.Shown}

-- the items so far, the number of bytes before the part that is now decoded, and the end of the last item
pub record Collected : Type 0 where
  pub all : List Placed
  pub base : ℕ
  pub from : ℕ

-- one more item, whose end is counted from the part's start
abbrev pub collect_item : Collected → Item → ℤ → Collected
collect_item c item end = record {
  all = c.all ++ record { item = item; from = c.from; to = saturate_unsigned w64 (pos c.base +ℤ end) } ∷ [];
  base = c.base;
  from = saturate_unsigned w64 (pos c.base +ℤ end);
}

abbrev pub collect_one : {S : Type 0} → Collected → Shown S → Collected
collect_one c shown = collect_item c shown.item shown.end

-- the place at which an item after these begins
abbrev pub last_end : ℕ → ℕ → List Ended → ℕ
last_end total from [] = from
last_end total from (e ∷ es) = last_end total (total - e.back) es

-- more items, seen where `total` bytes were read
abbrev pub collect : ℕ → Collected → List Ended → Collected
collect total c es = record { all = c.all ++ places total c.from es; base = c.base; from = last_end total c.from es }

-- the next part begins n bytes after the beginning
abbrev pub further_on : ℕ → Collected → Collected
further_on n c = record { all = c.all; base = n; from = c.from }
