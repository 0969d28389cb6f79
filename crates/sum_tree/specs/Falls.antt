-- Proofs that a trait asks for; there is nothing to believe here. A node is higher than its children.
use Rattle.std.{specs.Prelude.◌≤◌, specs.Prelude.max, proofs.Common.arith}
use Rattle.sum_tree.specs.declared.node.Node.{Node, TheVariants.Vacant, TheVariants.Leaf, TheVariants.Two, TheVariants.Three}
use Rattle.sum_tree.specs.{declared.node.Child.TheDeep.deep-Node, Level.row_of}

pub falls : {T S : Type 0} (t : _) (s : _) (n : Node T S) → max (deep-Node T S t s n) 0 ≤ (row_of n).height
falls t s Vacant = omega arith
falls t s (Leaf x) = omega arith
falls t s (Two a b) = omega arith
falls t s (Three a b c) = omega arith
