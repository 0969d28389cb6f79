-- Sums of lists.
use Rattle.std.specs.Prelude.{◌≡◌, ◌<◌, ◌^◌, List, [], ◌∷◌, ◌++◌, length}

-- what a sum's unit and join have to meet
pub record MonoidLaws {S : Type 0} (unit : S) (op : S → S → S) : Type 0 where
  pub left_unit : (a : S) → op unit a ≡ a
  pub right_unit : (a : S) → op a unit ≡ a
  pub assoc : (a b c : S) → op (op a b) c ≡ op a (op b c)

-- the join of the sums of a list's elements, in order; the unit of no element
abbrev pub total : {T S : Type 0} → S → (S → S → S) → (T → S) → List T → S
total unit op sum_of [] = unit
total unit op sum_of (x ∷ xs) = op (sum_of x) (total unit op sum_of xs)

-- the joins over all runs of the list fit
abbrev pub AllRunsFit : {T S : Type 0} → (S → Type 0) → S → (S → S → S) → (T → S) → List T → Type 0
AllRunsFit {T} fits unit op sum_of xs = (front run back : List T) → front ++ (run ++ back) ≡ xs → fits (total unit op sum_of run)

-- the join over the whole list fits, and its length fits in 32 bits
pub record IsSummable {T S : Type 0} (fits : S → Type 0) (unit : S) (op : S → S → S) (sum_of : T → S) (xs : List T) : Type 0 where
  pub fit : fits (total unit op sum_of xs)
  pub short : length xs < 2 ^ 32
