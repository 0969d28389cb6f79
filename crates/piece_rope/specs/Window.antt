-- The pieces that an edit touches.
use Rattle.std.specs.Prelude.{◌≡◌, ℕ, ◌+◌, ◌-◌, ◌<◌, ◌≤◌, ◌^◌, suc, List, take, length}
use Rattle.piece_rope.specs.{declared.window.Window.Window, Entry.Entry, Chain.bytes_of, Sizes.longest, Sizes.shortest, Sizes.HasSizes, Sizes.AreCounted}

-- the number of bytes of the first pieces
abbrev pub bytes_before : List Entry → ℕ → ℕ
bytes_before ps k = length (bytes_of (take k ps))

-- pieces in which places can be sought
pub record IsMeasured (ps : List Entry) : Type 0 where
  pub sizes : HasSizes ps
  pub counted : AreCounted ps
  pub bytes : length (bytes_of ps) < 2 ^ 63

-- the first place after which there are more bytes than `target`, or the number of pieces, with the bytes before it
pub record IsPlace (ps : List Entry) (target k before : ℕ) : Type 0 where
  pub within : k ≤ length ps
  pub before_is : before ≡ bytes_before ps k
  pub low : before ≤ target
  pub high : k < length ps → target < bytes_before ps (suc k)

-- a place with all bytes up to `target` before it, less than a piece further
pub record IsEnd (ps : List Entry) (target k behind : ℕ) : Type 0 where
  pub within : k ≤ length ps
  pub behind_is : behind ≡ bytes_before ps k
  pub back : target ≤ behind
  pub close : behind ≤ target + longest

-- the pieces `first..last` hold the bytes from `at` to `to`, and at most `margin` more at either side
pub record Spans (ps : List Entry) (at to margin : ℕ) (w : Window) : Type 0 where
  pub order : w.first ≤ w.last
  pub within : w.last ≤ length ps
  pub start : w.start ≡ bytes_before ps w.first
  pub end : w.end ≡ bytes_before ps w.last
  pub front : w.start ≤ at
  pub near : at ≤ w.start + margin
  pub back : to ≤ w.end
  pub close : w.end ≤ to + margin

-- with `n` bytes put in it is no less than a piece, unless it is the whole document
pub record IsRoomy (ps : List Entry) (at to n : ℕ) (w : Window) : Type 0 where
  pub in_front : 0 < w.first → shortest ≤ (at - w.start) + n + (w.end - to)
  pub behind : w.last < length ps → shortest ≤ (at - w.start) + n + (w.end - to)
  pub sole : length ps ≤ 1 → (w.first ≡ 0) × (w.last ≡ length ps)
