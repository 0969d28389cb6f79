-- Places of items in a document.
use Rattle.std.specs.Prelude.{ℕ, ◌-◌, List, [], ◌∷◌}
use Rattle.decoder_core.specs.declared.{item.Ended.Ended, placed.Placed.Placed}

-- the items of a run over a queue of `total` bytes. Each ends at the length less what is left after it, and begins at the end of the one
-- before. The first begins at `from`
abbrev pub places : ℕ → ℕ → List Ended → List Placed
places total from [] = []
places total from (e ∷ es) = record { item = e.item; from = from; to = total - e.back } ∷ places total (total - e.back) es
