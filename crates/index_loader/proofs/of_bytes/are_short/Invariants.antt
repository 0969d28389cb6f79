use Rattle.std.proofs.Common.{◌≡◌, ℕ, ◌-◌, ◌<◌, ◌≤◌, None, slice_index_or, true}
use Rattle.index_loader.specs.Form.{is_short}
use Rattle.index_loader.proofs.of_bytes.are_short.Given as goal

abbrev pub invariant-forms : goal.invariant-forms
invariant-forms l = (l.byte ≤ 256) × ((b : ℕ) → b < l.byte → is_short (slice_index_or l.forms b None) ≡ true)

abbrev pub decreases-forms : goal.decreases-forms
decreases-forms l = 256 - l.byte
