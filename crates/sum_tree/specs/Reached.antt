-- Places in a list, reached by number or by sum.
use Rattle.std.specs.Prelude.{◌≡◌, ℕ, ◌+◌, ◌<◌, ◌≤◌, List, [], ◌∷◌, ◌++◌, length, take, Option, None, option_to_list, IfSome}
use Rattle.sum_tree.specs.{Sums.total, Row.Row, Visited.RisesBy}
use Rattle.sum_tree.specs.declared.search.Below.{Below, TheVariants.Element, TheVariants.Child}

-- k is the first place after which the measure is above the target, or the end; s is the sum before it
pub record IsFirstAbove {T S : Type 0} (measure : S → ℕ) (target : ℕ) (unit : S) (op : S → S → S) (sum_of : T → S) (xs : List T) (k : ℕ) (s : S) : Type 0 where
  pub within : k ≤ length xs
  pub sum : s ≡ total unit op sum_of (take k xs)
  pub before : (j : ℕ) → j < k → measure (total unit op sum_of (take (j + 1) xs)) ≤ target
  pub behind : k < length xs → target < measure (total unit op sum_of (take (k + 1) xs))

-- the list is cut before the first element after which the measure is above the target, or at its end; s is the sum before the cut
pub record IsFound {T S : Type 0} (measure : S → ℕ) (target : ℕ) (unit : S) (op : S → S → S) (sum_of : T → S) (xs : List T) (s : S)
    (x : Option T) : Type 0 where
  pub front : List T
  pub back : List T
  pub split : xs ≡ front ++ (option_to_list x ++ back)
  pub ends : x ≡ None → back ≡ []
  pub sum : s ≡ total unit op sum_of front
  pub low : measure s ≤ target
  pub high : IfSome x (λ e. target < measure (op s (sum_of e)))

-- below a node with this sum before it, place k has the sum s before it
pub record IsPrefix {T S : Type 0} (unit : S) (op : S → S → S) (sum_of : T → S) (before : S) (xs : List T) (k : ℕ) (s : S) : Type 0 where
  pub front : List T
  pub back : List T
  pub split : xs ≡ front ++ back
  pub place : k ≡ length front
  pub sum : s ≡ op before (total unit op sum_of front)

-- the sum before a node and all that the node adds to it can be computed
pub record IsReachable {T S : Type 0} (fits : S → Type 0) (unit : S) (op : S → S → S) (sum_of : T → S) (before : S) (xs : List T) : Type 0 where
  pub fit : fits (op before (total unit op sum_of xs))

-- the target lies among a node's elements
pub record IsTargetAmong {T S : Type 0} (measure : S → ℕ) (target : ℕ) (unit : S) (op : S → S → S) (sum_of : T → S) (before : S) (xs : List T) : Type 0 where
  pub low : measure before ≤ target
  pub high : target < measure (op before (total unit op sum_of xs))

-- below a node with this sum before it, x is number k and the element that the target lies in; s is the sum before it
pub record IsElement {T S : Type 0} (measure : S → ℕ) (target : ℕ) (unit : S) (op : S → S → S) (sum_of : T → S) (before : S) (xs : List T)
    (k : ℕ) (s : S) (x : T) : Type 0 where
  pub front : List T
  pub back : List T
  pub split : xs ≡ front ++ x ∷ back
  pub place : k ≡ length front
  pub sum : s ≡ op before (total unit op sum_of front)
  pub low : measure s ≤ target
  pub high : target < measure (op s (sum_of x))

-- below a node with this sum before it, a node with elements ys has k elements and the sum s before it, and the target lies in it
pub record IsWayTo {T S : Type 0} (fits : S → Type 0) (measure : S → ℕ) (target : ℕ) (unit : S) (op : S → S → S) (sum_of : T → S)
    (before : S) (xs : List T) (k : ℕ) (s : S) (ys : List T) : Type 0 where
  pub front : List T
  pub back : List T
  pub split : xs ≡ front ++ (ys ++ back)
  pub place : k ≡ length front
  pub sum : s ≡ op before (total unit op sum_of front)
  pub fit : IsReachable fits unit op sum_of s ys
  pub sought : IsTargetAmong measure target unit op sum_of s ys

-- a search continues at a node's only element, or one level lower, by a visit; s is the sum before the place at which
-- it continues
abbrev pub IsBelow : {T S : Type 0} → (S → Type 0) → (S → ℕ) → ℕ → S → (S → S → S) → (T → S) → S → Row T → ℕ → ℕ → S → Below T S → Type 0
IsBelow fits measure target unit op sum_of before r old new s (Element x) = (r.items ≡ x.now ∷ []) × (r.height ≡ 0) × (new ≡ old) × (s ≡ before)
IsBelow fits measure target unit op sum_of before r old new s (Child k c) =
    IsWayTo fits measure target unit op sum_of before r.items k s c.now.items × (r.height ≡ c.now.height + 1) × RisesBy 1 old new

-- the list is cut as in IsFound, and k is the number of elements in front
pub record IsSearched {T S : Type 0} (measure : S → ℕ) (target : ℕ) (unit : S) (op : S → S → S) (sum_of : T → S) (xs : List T) (k : ℕ)
    (s : S) (x : Option T) : Type 0 where
  pub found : IsFound measure target unit op sum_of xs s x
  pub place : k ≡ length found.front
