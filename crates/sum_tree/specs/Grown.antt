-- What a node becomes where an element is inserted below it or where it takes in a neighbour.
use Rattle.std.specs.Prelude.{◌≡◌, ℕ, ◌+◌, ◌++◌}
use Rattle.sum_tree.specs.{Row.Row, Row.IsSound, declared.grown.Grown.Grown, declared.grown.Grown.TheVariants.One, declared.grown.Grown.TheVariants.Both}

-- what one node or two nodes side by side stand for
abbrev pub grown : {T S : Type 0} → Grown T S → Row T
grown (One r) = r
grown (Both a b) = record { items = a.items ++ b.items; height = a.height; nodes = a.nodes + b.nodes }

-- two are sound and of this height
abbrev pub IsPair : {T : Type 0} → ℕ → Row T → Row T → Type 0
IsPair h a b = IsSound a × IsSound b × (a.height ≡ h) × (b.height ≡ h)

-- each is sound and of this height
abbrev pub IsGrown : {T S : Type 0} → ℕ → Grown T S → Type 0
IsGrown h (One r) = IsSound r × (r.height ≡ h)
IsGrown h (Both a b) = IsPair h a b
