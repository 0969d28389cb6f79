-- A list with a run of its elements replaced.
use Rattle.std.specs.Prelude.{◌≡◌, ℕ, ◌+◌, List, ◌++◌, length, take, drop}
use Rattle.sum_tree.specs.Sums.{IsSummable}

-- those from number `from` to number `to` give way to others
abbrev pub with_run : {T : Type 0} → List T → ℕ → ℕ → List T → List T
with_run xs from to run = take from xs ++ (run ++ drop to xs)

-- the list `xs` became `zs` by the last of the elements `old`, of which `new` are left
pub record IsRefilled {T : Type 0} (xs : List T) (from to : ℕ) (old new zs : List T) : Type 0 where
  pub run : List T
  pub taken : old ≡ new ++ run
  pub count : length run + from ≡ to
  pub list : zs ≡ with_run xs from to run

-- with the last of these elements from `from` to `to` it becomes a list that can be summed
pub record CanRefill {T S : Type 0} (fits : S → Type 0) (unit : S) (op : S → S → S) (sum_of : T → S) (xs : List T) (from to : ℕ) (old : List T) : Type 0 where
  pub each : (rest run : List T) → old ≡ rest ++ run → length run + from ≡ to → IsSummable fits unit op sum_of (with_run xs from to run)
