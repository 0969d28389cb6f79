-- One level of the tree.
use Rattle.std.specs.Prelude.{◌≡◌, ℕ, ◌+◌, max, [], ◌∷◌, ◌++◌, length}
use Rattle.sum_tree.specs.{Sums.total, Sums.IsSummable, Row.Row, Row.IsSound, declared.node.Node.Node}
use Rattle.sum_tree.specs.declared.node.Node.TheVariants.{Vacant, Leaf, Two, Three}

-- what a node stands for, by what its children stand for
abbrev pub row_of : {T S : Type 0} → Node T S → Row T
row_of Vacant = record { items = []; height = 0; nodes = 1 }
row_of (Leaf x) = record { items = x ∷ []; height = 0; nodes = 1 }
row_of (Two a b) = record { items = a.items ++ b.items; height = max a.height b.height + 1; nodes = a.nodes + b.nodes + 1 }
row_of (Three a b c) = record {
  items = a.items ++ (b.items ++ c.items);
  height = max (max a.height b.height) c.height + 1;
  nodes = a.nodes + b.nodes + c.nodes + 1;
}

-- children are sound and of one height
abbrev pub IsLevel : {T S : Type 0} → Node T S → Type 0
IsLevel Vacant = ⊥
IsLevel (Leaf x) = Unit {0}
IsLevel (Two a b) = IsSound a × IsSound b × (a.height ≡ b.height)
IsLevel (Three a b c) = IsSound a × IsSound b × IsSound c × (a.height ≡ b.height) × (b.height ≡ c.height)

-- a parent keeps the number and the sum of a node's elements
pub record IsSummedUp {T S : Type 0} (fits : S → Type 0) (unit : S) (op : S → S → S) (sum_of : T → S) (count : ℕ) (sum : S) (n : Node T S) : Type 0 where
  pub level : IsLevel n
  pub count_is : count ≡ length (row_of n).items
  pub sum_is : sum ≡ total unit op sum_of (row_of n).items
  pub summable : IsSummable fits unit op sum_of (row_of n).items
