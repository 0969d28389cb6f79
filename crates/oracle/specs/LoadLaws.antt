-- Proofs that a trait asks for; there is nothing to believe here. Loads are sums.
use Rattle.std.specs.Prelude.{◌≡◌, ℕ, ◌≤◌, refl}
use Rattle.std.proofs.Common.{arith}
use Rattle.sum_tree.specs.Sums.{MonoidLaws}
use Rattle.oracle.specs.declared.tree.load.{Load.Load, LoadAxis.LoadAxis, LoadAxis.TheVariants.Count, LoadAxis.TheVariants.Weight}
use Rattle.oracle.specs.Loads.{load, no_load, joined, IsSmall, number}

same : (a b c d : ℕ) → a ≡ b → c ≡ d → load a c ≡ load b d
same a b c d p q = λ i. load (p i) (q i)

pub load_laws : MonoidLaws no_load joined
load_laws = record {
  left_unit = λ a. same _ _ _ _ (omega arith) (omega arith);
  right_unit = λ a. same _ _ _ _ (omega arith) (omega arith);
  assoc = λ a b c. same _ _ _ _ (omega arith) (omega arith);
}

pub small_left : (a b : Load) → IsSmall (joined a b) → IsSmall a
small_left a b h = record { count = omega (arith, h.count); weight = omega (arith, h.weight) }

pub small_right : (a b : Load) → IsSmall (joined a b) → IsSmall b
small_right a b h = record { count = omega (arith, h.count); weight = omega (arith, h.weight) }

pub small_none : IsSmall no_load
small_none = record { count = omega arith; weight = omega arith }

pub number_none : (d : LoadAxis) → number d no_load ≡ 0
number_none Count = refl
number_none Weight = refl

pub number_rises : (d : LoadAxis) (a b : Load) → number d a ≤ number d (joined a b)
number_rises Count a b = omega arith
number_rises Weight a b = omega arith
