use Rattle.std.proofs.Common.{◌≡◌, ℕ, ◌+◌, ◌-◌, ◌<◌, ◌≤◌, None, Some, length, slice_index_or}
use Rattle.index_loader.proofs.of_bytes.byte_forms.Given as goal

abbrev pub invariant-ascii : goal.invariant-ascii
invariant-ascii l = (l.byte ≤ 0x80) × (length l.forms ≡ 256) × ((b : ℕ) → b < l.byte → slice_index_or l.forms b None ≡ Some b)

abbrev pub decreases-ascii : goal.decreases-ascii
decreases-ascii l = 0x80 - l.byte

abbrev pub invariant-high : goal.invariant-high
invariant-high l =
    (l.place ≤ 0x80) × (length l.forms ≡ 256) × ((b : ℕ) → b < 0x80 → slice_index_or l.forms b None ≡ Some b)
    × ((p : ℕ) → p < l.place → slice_index_or l.forms (p + 0x80) None ≡ slice_index_or l.high p None)

abbrev pub decreases-high : goal.decreases-high
decreases-high l = 0x80 - l.place
