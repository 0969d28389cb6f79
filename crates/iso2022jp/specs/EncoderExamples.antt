-- A few entries of the indexes, for worked examples of the encoder.
use Rattle.std.specs.Prelude.{[], ◌∷◌}
use Rattle.index_loader.specs.{declared.kind.IndexKind.TheVariants.Jis0208, declared.kind.IndexKind.TheVariants.Katakana, Index.Loaded}

abbrev pub jis0208_pairs : Loaded
jis0208_pairs = record { kind = Jis0208; pairs = (0, 0x3000) ∷ (1, 0x3001) ∷ (2, 0x3002) ∷ (60, 0xFF0D) ∷ (283, 0x3042) ∷ (1410, 0x4E9C) ∷ (8836, 0x2170) ∷ [] }

abbrev pub katakana_pairs : Loaded
katakana_pairs = record { kind = Katakana; pairs = (0, 0x3002) ∷ [] }
