-- What a tree of sums stands for.
use Rattle.std.specs.Prelude.{ℕ, ◌+◌, ◌*◌, ◌^◌, ◌<◌, ◌≤◌, List, [], length, Option, Some, None}
use Rattle.sum_tree.specs.{Sums.IsSummable, Row.Row, Row.IsSound}

-- the elements in order, and how many inserts are sure to need no memory
pub record Listed (T : Type 0) : Type 0 where
  pub items : List T
  pub spare : ℕ

abbrev pub items_in : {T : Type 0} → Option (Row T) → List T
items_in None = []
items_in (Some r) = r.items

abbrev pub nodes_in : {T : Type 0} → Option (Row T) → ℕ
nodes_in None = 0
nodes_in (Some r) = r.nodes

abbrev pub IsSoundRoot : {T : Type 0} → Option (Row T) → Type 0
IsSoundRoot None = Unit {0}
IsSoundRoot (Some r) = IsSound r

-- there are two boxes for each element and each place, less one, in the tree or in the pool, which has room for all of them. The
-- number of elements and places fits in 32 bits
pub record IsTree {T S : Type 0} (fits : S → Type 0) (unit : S) (op : S → S → S) (sum_of : T → S) (root : Option (Row T))
    (boxes capacity spare : ℕ) : Type 0 where
  pub sound : IsSoundRoot root
  pub summable : IsSummable fits unit op sum_of (items_in root)
  pub room : 2 * (length (items_in root) + spare) ≤ boxes + nodes_in root + 1
  pub space : boxes + nodes_in root ≤ capacity
  pub few : length (items_in root) + spare < 2 ^ 32
