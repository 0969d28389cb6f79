-- What the decoders of multi-byte encodings have in common (Encoding Standard, "Legacy multi-byte Chinese", "Japanese" and "Korean encodings").
use Rattle.std.specs.Prelude.{ℕ, ◌+◌, ◌*◌, Bool, ◌&&◌, List, [], ◌∷◌, map, Option, Some, None, if◌then◌else◌}
use Rattle.std.specs.List.{range_with_len}
use Rattle.decoder_core.specs.declared.item.Item.{Item, TheVariants.One, TheVariants.Error}
use Rattle.decoder_core.specs.{Queue.Turn, Queue.Table, Forms.gives, Forms.holds, Forms.finishes, Forms.is_ascii}
use Rattle.multibyte_decoders.specs.declared.pairs.PairState.{PairState, TheVariants.Idle, TheVariants.Lead}

-- an ASCII byte is itself, and all else an error
abbrev pub ascii_item : ℕ → Item
ascii_item b = if is_ascii b then One b else Error

-- a byte with no lead pending: a lead is held in a state of its own, and another byte is an item by itself
abbrev pub begins : {S : Type 0} → S → Bool → S → Item → Turn S
begins idle is_lead held item = if is_lead then holds held else gives idle item []

-- the last byte of what has no code point is put back if it is an ASCII byte
abbrev pub ascii_back : ℕ → List ℕ
ascii_back b = if is_ascii b then b ∷ [] else []

-- after the last byte of a sequence: its item, or else an error
abbrev pub completes : {S : Type 0} → S → Option Item → ℕ → Turn S
completes idle (Some item) b = gives idle item []
completes idle None b = gives idle Error (ascii_back b)

-- an item of one code point, if there is one
abbrev pub one_of : Option ℕ → Option Item
one_of (Some c) = Some (One c)
one_of None = None

-- what an encoding says of its single bytes and pairs: which bytes are leads, and the items of other single bytes. It says which bytes are
-- trails, and the number of a lead's row and of a trail's column in it. It has the number of columns in a row, and the item of a pointer
-- over the index
pub record PairRule : Type 0 where
  pub is_lead : ℕ → Bool
  pub single : ℕ → Item
  pub is_trail : ℕ → Bool
  pub row : ℕ → ℕ
  pub column : ℕ → ℕ
  pub columns : ℕ
  pub item : (ℕ → Option ℕ) → ℕ → Option Item

abbrev pub pair_pointer : PairRule → ℕ → ℕ → ℕ
pair_pointer rule lead b = rule.row lead * rule.columns + rule.column b

-- the item of a lead and the byte after it
abbrev pub pair_item : PairRule → (ℕ → Option ℕ) → ℕ → ℕ → Option Item
pair_item rule index lead b = if rule.is_trail b then rule.item index (pair_pointer rule lead b) else None

-- the decoder of an encoding of single bytes and pairs
abbrev pub pair_decoder : PairRule → (ℕ → Option ℕ) → Table PairState
pair_decoder rule index Idle None = finishes Idle
pair_decoder rule index (Lead lead) None = gives Idle Error []
pair_decoder rule index Idle (Some b) = begins Idle (rule.is_lead b) (Lead b) (rule.single b)
pair_decoder rule index (Lead lead) (Some b) = completes Idle (pair_item rule index lead b) b

-- by which pairs are looked up in bulk: the number of each byte that has one, and of all others one above every pointer
abbrev pub numbers : (ℕ → Bool) → (ℕ → ℕ) → List ℕ
numbers has number = map (λ b. if has b then number b else 0x8000) (range_with_len 0 256)

-- where the rows begin that are looked up so, and the columns
abbrev pub row_numbers : PairRule → (ℕ → Bool) → List ℕ
row_numbers rule known = numbers (λ lead. rule.is_lead lead && known lead) (λ lead. rule.row lead * rule.columns)

abbrev pub column_numbers : PairRule → List ℕ
column_numbers rule = numbers rule.is_trail rule.column
