-- Loads of lists of items.
use Rattle.std.specs.Prelude.{ℕ, ◌+◌, ◌<◌, ◌^◌}
use Rattle.oracle.specs.declared.tree.load.{Load.Load, LoadAxis.LoadAxis, LoadAxis.TheVariants.Count, LoadAxis.TheVariants.Weight}

abbrev pub load : ℕ → ℕ → Load
load count weight = record { count = count; weight = weight }

-- the load of no item
abbrev pub no_load : Load
no_load = load 0 0

-- the load of two lists in a row
abbrev pub joined : Load → Load → Load
joined a b = load (a.count + b.count) (a.weight + b.weight)

-- each number is below 2^64
pub record IsSmall (l : Load) : Type 0 where
  pub count : l.count < 2 ^ 64
  pub weight : l.weight < 2 ^ 64

-- a number of a load
abbrev pub number : LoadAxis → Load → ℕ
number Count l = l.count
number Weight l = l.weight
