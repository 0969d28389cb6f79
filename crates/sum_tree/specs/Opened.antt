-- A node taken apart.
use Rattle.std.specs.Prelude.{◌≡◌, ◌+◌, [], ◌∷◌, ◌++◌, length}
use Rattle.sum_tree.specs.Row.{Row, IsSound}
use Rattle.sum_tree.specs.declared.node.{Opened.Opened, Opened.TheVariants.Leaf, Opened.TheVariants.Two, Opened.TheVariants.Three, NodeParts.NodeParts}
use Rattle.sum_tree.specs.declared.node.NodeParts.TheVariants as parts

-- the row of one element
pub record IsLeaf {T : Type 0} (r : Row T) (x : T) : Type 0 where
  pub items : r.items ≡ x ∷ []
  pub len : length r.items ≡ 1
  pub height : r.height ≡ 0
  pub nodes : r.nodes ≡ 1

-- the row of two children
pub record IsTwo {T : Type 0} (r a b : Row T) : Type 0 where
  pub items : r.items ≡ a.items ++ b.items
  pub len : length r.items ≡ length a.items + length b.items
  pub height : r.height ≡ a.height + 1
  pub level : a.height ≡ b.height
  pub nodes : r.nodes ≡ a.nodes + b.nodes + 1
  pub left : IsSound a
  pub right : IsSound b

-- the row of three children
pub record IsThree {T : Type 0} (r a b c : Row T) : Type 0 where
  pub items : r.items ≡ a.items ++ (b.items ++ c.items)
  pub len : length r.items ≡ length a.items + length b.items + length c.items
  pub height : r.height ≡ a.height + 1
  pub level : a.height ≡ b.height
  pub level_right : b.height ≡ c.height
  pub nodes : r.nodes ≡ a.nodes + b.nodes + c.nodes + 1
  pub left : IsSound a
  pub middle : IsSound b
  pub right : IsSound c

abbrev pub IsOpened : {T S : Type 0} → Row T → Opened T S → Type 0
IsOpened r (Leaf node x) = IsLeaf r x
IsOpened r (Two node a b) = IsTwo r a b
IsOpened r (Three node a b c) = IsThree r a b c

abbrev pub HasParts : {T S : Type 0} → Row T → NodeParts T S → Type 0
HasParts r (parts.Leaf x) = IsLeaf r x.now
HasParts r (parts.Two a b) = IsTwo r a.now b.now
HasParts r (parts.Three a b c) = IsThree r a.now b.now c.now
