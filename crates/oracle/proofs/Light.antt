-- Sums of short lists of items fit.
use Rattle.std.proofs.Common.{◌≡◌, ◌*◌, ◌^◌, ◌<◌, ◌≤◌, List, [], ◌∷◌, length, arith}
use Rattle.sum_tree.specs.Sums.{total}
use Rattle.oracle.specs.{declared.tree.item.WeightedItem.WeightedItem, declared.tree.load.Load.Load, Loads.load, Loads.no_load, Loads.joined, Loads.IsSmall}

record IsLight (xs : List WeightedItem) (l : Load) : Type 0 where
  count : l.count ≡ length xs
  weight : l.weight ≤ 65536 * length xs

light : (xs : List WeightedItem) → IsLight xs (total no_load joined (λ x. load 1 x.weight) xs)
light [] = record { count = omega arith; weight = omega arith }
light (x ∷ xs) =
    let h = light xs in
    let w = x.light in
    record { count = omega arith; weight = omega arith }

pub all_fit : (xs : List WeightedItem) → length xs < 2 ^ 40 → IsSmall (total no_load joined (λ x. load 1 x.weight) xs)
all_fit xs h =
    let l = light xs in
    record { count = omega arith; weight = omega arith }
