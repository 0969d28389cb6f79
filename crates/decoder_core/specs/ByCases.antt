-- Proofs that a trait asks for; there is nothing to believe here. Proofs by the cases of a test.
use Rattle.std.proofs.Common.{◌≡◌, Bool, true, false, refl, if◌then◌else◌}

pub by_if : {A : Type 0} (P : A → Type 0) (c : Bool) {x y : A} → P x → P y → P (if c then x else y)
by_if P true p q = p
by_if P false p q = q

pub by_test : {A : Type 0} (P : A → Type 0) (c : Bool) {x y : A} → (c ≡ true → P x) → (c ≡ false → P y) → P (if c then x else y)
by_test P true p q = p refl
by_test P false p q = q refl
