-- An entry of index Big5, for worked examples.
use Rattle.std.specs.Prelude.{[], ◌∷◌}
use Rattle.index_loader.specs.{declared.kind.IndexKind.TheVariants.Pair, declared.kind.PairEncoding.TheVariants.Big5, Index.Loaded}

abbrev pub big5 : Loaded
big5 = record { kind = Pair Big5; pairs = (5495, 0x4E00) ∷ [] }
