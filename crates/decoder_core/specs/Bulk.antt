-- What is taken in bulk: code points, one an item, whose places have no gaps.
use Rattle.std.specs.Prelude.{◌≡◌, ℕ, ◌+◌, ◌*◌, ◌≤◌, List, [], ◌∷◌, nat_lt, if◌then◌else◌, take, length, ℤ, pos, ◌+ℤ◌, ◌-ℤ◌}
use Rattle.std.specs.{Char.len_utf8, Str.chars, Str.IsUtf8}
use Rattle.lane_utf.specs.Widths.{utf16_width}
use Rattle.decoder_core.specs.declared.{item.Item.TheVariants.One, bulk.Bulk.Bulk}
use Rattle.decoder_core.specs.declared.bulk.Stride.{Stride, TheVariants.Utf8, TheVariants.Utf16, TheVariants.Pairs, TheVariants.Bytes}
use Rattle.decoder_core.specs.{Queue.Table, Queue.feed, Shown.Shown, Shown.shown_from}

-- the number of bytes of an item that is this code point (Unicode, chapter 3, D92 and D91). Otherwise it is a byte for ASCII and a pair for all others, or
-- a byte for all
abbrev pub width_of : Stride → ℕ → ℕ
width_of Utf8 c = len_utf8 c
width_of Utf16 c = 2 * utf16_width c
width_of Pairs c = if nat_lt c 0x80 then 1 else 2
width_of Bytes c = 1

abbrev pub run_width : Stride → List ℕ → ℕ
run_width stride [] = 0
run_width stride (c ∷ cs) = width_of stride c + run_width stride cs

-- one item a code point, without gaps from the place `from` on
abbrev pub plain_from : {S : Type 0} → Stride → ℤ → S → List ℕ → List (Shown S)
plain_from stride from after [] = []
plain_from stride from after (c ∷ cs) =
    record { item = One c; end = from +ℤ pos (width_of stride c); after = after }
    ∷ plain_from stride (from +ℤ pos (width_of stride c)) after cs

-- the same, where the last of them ends at `end`
abbrev pub plain_to : {S : Type 0} → Stride → ℤ → S → List ℕ → List (Shown S)
plain_to stride end after cs = plain_from stride (end -ℤ pos (run_width stride cs)) after cs

-- steps over the bytes taken leave the state unchanged, and give exactly the code points of the written text. There is one item for each
-- code point, without gaps, beginning at the first byte
pub record IsBulk {S : Type 0} (table : Table S) (state : S) (bytes : List ℕ) (bulk : Bulk) (block : List ℕ) : Type 0 where
  pub within : bulk.taken ≤ length bytes
  pub room : bulk.written ≤ 1024
  pub text : IsUtf8 (take bulk.written block)
  pub stays : (feed table state (take bulk.taken bytes)).state ≡ state
  pub whole : run_width bulk.stride (chars (take bulk.written block)) ≡ bulk.taken
  pub items : (read : ℕ)
      → shown_from table read state (take bulk.taken bytes) ≡ plain_from bulk.stride (pos read) state (chars (take bulk.written block))

-- the first `count` bytes are their own text: steps over them leave the state unchanged, and give exactly its code points. There is one item for each
-- code point, as long as its form, without gaps, beginning at the first byte
pub record IsOwnText {S : Type 0} (table : Table S) (state : S) (bytes : List ℕ) (count : ℕ) : Type 0 where
  pub within : count ≤ length bytes
  pub text : IsUtf8 (take count bytes)
  pub stays : (feed table state (take count bytes)).state ≡ state
  pub whole : run_width Utf8 (chars (take count bytes)) ≡ count
  pub items : (read : ℕ)
      → shown_from table read state (take count bytes) ≡ plain_from Utf8 (pos read) state (chars (take count bytes))
