-- What items come to.
use Rattle.std.proofs.Common.{◌≡◌, refl, ℕ, ℤ, ◌+◌, ◌*◌, ◌≤◌, List, [], ◌∷◌, length, length-append, map, flat_map, arith}
use Rattle.decoder_core.specs.declared.item.Item.{Item}
use Rattle.state_memo.specs.{Items.scalar_count, Items.is_an_error, Items.kept_item, Items.errors_in, Items.all_scalars, Sums.sum_of}
use Rattle.lemmas.proofs.Recursion.{sum-append}
use Rattle.state_memo.proofs.Prelude.{nat_tests, utf8_width, total_width, item_code_points, OutputState, Ended, IsBounded, cond_both}

utf8_width-le : (c : ℕ) → utf8_width c ≤ 4
utf8_width-le c = grind (arith, nat_tests)

item-scalars : (i : Item) → length (item_code_points i) ≡ scalar_count i
item-scalars i = grind arith

item-width : (i : Item) → total_width utf8_width (item_code_points i) ≤ 8
item-width i = grind (arith, utf8_width-le)

module _ {X : Type 0} (item : X → Item) (end : X → ℤ) (output : X → OutputState) where
  abbrev pub text_by : List X → List ℕ
  text_by xs = flat_map (λ (x : X). item_code_points (item x)) xs

  abbrev pub items_by : List X → List Ended
  items_by xs = map (λ (x : X). kept_item (item x) (end x) (output x)) xs

  pub counted-items : (xs : List X) → length (text_by xs) ≡ all_scalars (items_by xs)
  counted-items [] = refl
  counted-items (x ∷ xs) = omega (arith, length-append (item_code_points (item x)) (text_by xs), item-scalars (item x), counted-items xs)

  width-items : (xs : List X) → total_width utf8_width (text_by xs) ≤ 8 * length xs
  width-items [] = omega arith
  width-items (x ∷ xs) =
      let parts = sum-append (total_width utf8_width) _ refl (λ _ _. refl) (item_code_points (item x)) (text_by xs) in
      omega (arith, parts, item-width (item x), width-items xs)

  errors-items : (xs : List X) → errors_in (items_by xs) ≤ length xs
  errors-items [] = omega arith
  errors-items (x ∷ xs) = omega (arith, cond_both (is_an_error (item x)) 1 0 (λ n. n ≤ 1) (λ _. omega arith) (λ _. omega arith), errors-items xs)

  pub bounded-items : (bytes : ℕ) (xs : List X) → length xs ≤ bytes + 7 → IsBounded (sum_of bytes (text_by xs) (items_by xs))
  unfolding sum_of
  bounded-items bytes xs few = record { utf8 = omega (arith, few, width-items xs); errors = omega (arith, few, errors-items xs) }
