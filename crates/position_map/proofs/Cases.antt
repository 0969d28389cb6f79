-- What is there or not.
use Rattle.std.proofs.Common.{ℕ, ◌≡◌, refl, sym, ◌∙◌, ◌<◌, ◌≤◌, inl, inr, nat_lt, List, ◌∷◌, length, Option, Some, None, Result, Ok, arith}
use Rattle.std.{specs.List.slice_get, specs.Option.option_map, specs.Option.ok_or, proofs.lemmas.Bool.Decides.nat_tests, proofs.lemmas.Option.slice_get_cases}
use Rattle.lemmas.proofs.Bools.{by_test}

pub by_le : {A : Type 0} (m n : ℕ) → (m ≤ n → A) → (n < m → A) → A
by_le m n p q = by_test (nat_lt n m) (λ t. q (grind (arith, nat_tests))) (λ t. p (grind (arith, nat_tests)))

pub same_some : {A : Type 0} {x y : A} → Some x ≡ Some y → x ≡ y
same_some h = cc

pub none_some : {A : Type 0} {x : A} → None ≡ Some x → ⊥
none_some h = cc

pub map_some : {A B : Type 0} (f : A → B) (o : Option A) (y : B) → option_map f o ≡ Some y → (x : A) × (o ≡ Some x) × (f x ≡ y)
map_some f None y e = absurd (none_some e)
map_some f (Some x) y e = (x, refl, same_some e)

pub map_none : {A B : Type 0} (f : A → B) (o : Option A) → option_map f o ≡ None → o ≡ None
map_none f None e = refl
map_none f (Some x) e = cc

pub ok_some : {A E : Type 0} (o : Option A) (e : E) (x : A) → ok_or o e ≡ Ok x → o ≡ Some x
ok_some None e x h = cc
ok_some (Some y) e x h = cc

pub none_past : {A : Type 0} (xs : List A) (k : ℕ) → slice_get xs k ≡ None → length xs ≤ k
none_past xs k h = elim (slice_get_cases xs k).1 [ inl w ↦ absurd (none_some (sym h ∙ w.2)) | inr w ↦ w.0 ]

pub same_ok : {A E : Type 0} {x y : A} → ◌≡◌ {A = Result A E} (Ok x) (Ok y) → x ≡ y
same_ok h = cc

pub same_cons : {A : Type 0} {x y : A} {xs ys : List A} → x ∷ xs ≡ y ∷ ys → (x ≡ y) × (xs ≡ ys)
same_cons e = (cc, cc)
