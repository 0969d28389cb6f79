-- Facts that every outcome meets.
use Rattle.std.specs.Prelude.{◌≡◌, ℕ, ◌+◌, ◌*◌, ◌≤◌, false, List, length}
use Rattle.lane_ascii.specs.Marks.{marks, ends_cr}
use Rattle.lane_utf.specs.Widths.{utf8_width, utf16_width, total_width}
use Rattle.state_memo.specs.declared.ended.Ended.{Ended}
use Rattle.state_memo.specs.{declared.sum.Sum.Sum, Gathering.Gathered, Items.errors_in, Items.all_scalars, Lines.begins_lf, Sums.sum_of}

-- the numbers are those of the code points and the items, and these have as many code points
pub record IsSumOf (cs : List ℕ) (items : List Ended) (s : Sum) : Type 0 where
  pub scalars : s.scalars ≡ length cs
  pub utf16 : s.utf16 ≡ total_width utf16_width cs
  pub utf8 : s.utf8 ≡ total_width utf8_width cs
  pub errors : s.errors ≡ errors_in items
  pub marks : s.marks ≡ marks false cs
  pub lf_first : s.lf_first ≡ begins_lf cs
  pub cr_last : s.cr_last ≡ ends_cr false cs
  pub counted : length cs ≡ all_scalars items

-- what the bytes of a sum can give: seven items more than bytes, and eight bytes of UTF-8 an item
pub record IsBounded (s : Sum) : Type 0 where
  pub utf8 : s.utf8 ≤ 8 * s.bytes + 64
  pub errors : s.errors ≤ 8 * s.bytes + 64

-- what was gathered over `bytes` bytes can be an outcome's text and items
pub record IsDone (bytes : ℕ) (g : Gathered) : Type 0 where
  pub counted : length g.text ≡ all_scalars g.items
  pub bounded : IsBounded (sum_of bytes g.text g.items)
