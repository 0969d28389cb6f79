-- What a tree node stands for.
use Rattle.std.specs.Prelude.{ℕ, ◌+◌, ◌*◌, ◌^◌, ◌≤◌, List, length}

-- the elements below a node in order, how many levels lie below it, and how many nodes there are with it
pub record Row (T : Type 0) : Type 0 where
  pub items : List T
  pub height : ℕ
  pub nodes : ℕ

-- each level has twice as many elements at least, and there are at most two nodes for an element
pub record IsSound {T : Type 0} (r : Row T) : Type 0 where
  pub wide : 2 ^ r.height ≤ length r.items
  pub thrifty : r.nodes + 1 ≤ 2 * length r.items
