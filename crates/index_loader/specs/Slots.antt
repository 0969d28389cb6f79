-- The places of a collection of indexes.
use Rattle.std.specs.Prelude.{◌≡◌, ℕ, List, map, Option, Some, None, option_map, slice_index_or}
use Rattle.index_loader.specs.{declared.kind.IndexKind.IndexKind, declared.kind.IndexKind.TheVariants.Jis0208, Index.Loaded, Kinds.kinds, Pairs.Pairs}

-- the pairs at each place
abbrev pub pairs_kept : List (Option Loaded) → List (Option Pairs)
pairs_kept slots = map (λ slot. option_map (λ index. index.pairs) slot) slots

-- the kind whose file is kept at a place
unfoldable pub kind_at : ℕ → IndexKind
kind_at slot = slice_index_or kinds slot Jis0208

-- an index is at the place of its kind
abbrev pub AreInTheirSlots : List (Option Loaded) → Type 0
AreInTheirSlots slots = (k : ℕ) (index : Loaded) → slice_index_or slots k None ≡ Some index → index.kind ≡ kind_at k
