-- How far items end before the end of the bytes.
use Rattle.std.specs.Prelude.{ℕ, ◌≤◌, List, [], ◌∷◌}
use Rattle.decoder_core.specs.declared.item.Ended.{Ended}

-- at most `most` bytes follow each item's end
abbrev pub AreNear : ℕ → List Ended → Type 0
AreNear most [] = Unit {0}
AreNear most (e ∷ es) = (e.back ≤ most) × AreNear most es
