-- Heights of what a child became.
use Rattle.std.proofs.Common.{◌≡◌, ℕ, sym, subst}
use Rattle.sum_tree.specs.{Grown.grown, Grown.IsGrown, declared.grown.Grown.Grown, declared.grown.Grown.TheVariants.One, declared.grown.Grown.TheVariants.Both}

pub grown_height : {T S : Type 0} (h : ℕ) (g : Grown T S) → IsGrown h g → (grown g).height ≡ h
grown_height h (One r) s = s.1
grown_height h (Both a b) s = s.2

pub grown_own : {T S : Type 0} (h : ℕ) (g : Grown T S) → IsGrown h g → IsGrown (grown g).height g
grown_own h g s = subst (λ (k : ℕ). IsGrown k g) (sym (grown_height h g s)) s

pub grown_at : {T S : Type 0} (h k : ℕ) (g : Grown T S) → h ≡ k → IsGrown h g → IsGrown k g
grown_at h k g e s = subst (λ (i : ℕ). IsGrown i g) e s
