-- Worked rows of the encodings of single bytes and pairs.
use Rattle.std.specs.Prelude.{ℕ, List, length}
use Rattle.decoder_core.specs.{declared.item.Item.Item, declared.placed.Placed.Placed, Placed.places, Queue.run}
use Rattle.index_loader.specs.{declared.kind.PairEncoding.PairEncoding, Index.Loaded, Index.code_point_of}
use Rattle.multibyte_decoders.specs.{declared.pairs.PairState.TheVariants.Idle, PairRules.rule_of, Pairs.pair_decoder}

-- the items of bytes at their places
abbrev pub decoded : PairEncoding → Loaded → List ℕ → List Placed
decoded encoding index bytes = places (length bytes) 0 (run (pair_decoder (rule_of encoding) (code_point_of index)) Idle bytes)

abbrev pub item_at : ℕ → Item → ℕ → Placed
item_at from item to = record { item = item; from = from; to = to }
