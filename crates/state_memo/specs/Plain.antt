-- Items that are code points of a text, of which no run is made.
use Rattle.std.specs.Prelude.{◌≡◌, ◌≢◌, ℕ, ◌≤◌, ℤ, pos, ◌+ℤ◌, List, [], ◌∷◌, length, drop, false, Option, Some, None}
use Rattle.decoder_core.specs.Bulk.{width_of, run_width}
use Rattle.decoder_core.specs.declared.bulk.Stride.{Stride, TheVariants.Bytes, TheVariants.Utf8, TheVariants.Utf16}
use Rattle.lane_utf.specs.Widths.{total_width, utf8_width}
use Rattle.iso2022jp.specs.declared.output.OutputState.{OutputState}
use Rattle.state_memo.specs.declared.{ended.Ended.Ended, kind.ItemKind.ItemKind, run.Run.Run}
use Rattle.state_memo.specs.declared.tail.{PlainPart.PlainPart, PlainTail.PlainTail}
use Rattle.state_memo.specs.{Gathering.Gathered, Gathering.IsEven, Gathering.plain_items_from, Items.all_scalars, Runs.items_of_last}

-- how long items are of which each is one byte of ASCII while nothing else is known of them
abbrev pub stride_of : Option Stride → Stride
stride_of None = Bytes
stride_of (Some stride) = stride

-- what is known of code points whose items are as long as that
abbrev pub HasStride : Option Stride → List ℕ → Type 0
HasStride None cs = IsEven Utf8 1 cs
HasStride (Some stride) cs = Unit {0}

-- whatever is as long as the first says is as long as the second says: ASCII is one byte by each stride except that of
-- UTF-16
abbrev pub IsWider : Option Stride → Option Stride → Type 0
IsWider None None = Unit {0}
IsWider None (Some stride) = stride ≢ Utf16
IsWider (Some stride) other = other ≡ Some stride

-- these code points are a part's
pub record IsPart (p : PlainPart) (cs : List ℕ) : Type 0 where
  pub count : p.count ≡ length cs
  pub len : p.len ≡ total_width utf8_width cs
  pub end : p.end ≡ p.from +ℤ pos (run_width p.stride cs)

-- a part's items
abbrev pub part_items : PlainPart → List ℕ → List Ended
part_items p cs = plain_items_from p.stride p.from p.output cs

-- items under way that are the last code points of a text
abbrev pub tail_items : Option PlainTail → List ℕ → List Ended
tail_items None cs = []
tail_items (Some t) cs = plain_items_from (stride_of t.stride) t.from t.output (drop t.before cs)

-- they end where it says, and are as long
pub record IsTail (t : PlainTail) (cs : List ℕ) : Type 0 where
  pub within : t.before ≤ length cs
  pub end : t.end ≡ t.from +ℤ pos (run_width (stride_of t.stride) (drop t.before cs))
  pub long : HasStride t.stride (drop t.before cs)

-- and nothing except a run is before them
abbrev pub HasTail : Option PlainTail → List ℕ → List Run → Type 0
HasTail None cs closed = Unit {0}
HasTail (Some t) cs closed = IsTail t cs × (closed ≡ [])

-- the first of these is so wide, and before those
pub record IsFirst (stride : Stride) (cs : List ℕ) (width : ℕ) (rest : List ℕ) : Type 0 where
  pub first : ℕ
  pub parts : cs ≡ first ∷ rest
  pub wide : width ≡ width_of stride first

-- the code points of a piece's text whose items are after the leading run
abbrev pub code_points_behind : Option Run → List ℕ → List ℕ
code_points_behind front cs = drop (all_scalars (items_of_last front)) cs

-- the item of a code point that ends `width` bytes after a place
abbrev pub item_behind : ℤ → OutputState → ℕ → Ended
item_behind from output width = record { scalars = 1; end = from +ℤ pos width; error = false; output = output }

-- the runs of such code points, one each
abbrev pub plain_runs : Stride → ItemKind → ℤ → List ℕ → List Run
plain_runs stride kind from [] = []
plain_runs stride kind from (c ∷ cs) =
    record { last = from +ℤ pos (width_of stride c); more = 0; step = 0; kind = kind }
    ∷ plain_runs stride kind (from +ℤ pos (width_of stride c)) cs

-- what is gathered of bytes that are their own text, which has these code points
abbrev pub own_gathered : OutputState → List ℕ → Gathered
own_gathered output cs = record { text = cs; items = plain_items_from Utf8 (pos 0) output cs }
