-- What the bytes of a document can give, by the number of its items.
use Rattle.piece_rope.proofs.Prelude.{refl, ◌*◌, ◌≤◌, Bool, true, false, List, [], ◌∷◌, length, length-append, arith, Place, Item, One, Placed}
use Rattle.piece_rope.proofs.Prelude.{item_code_points, code_points, error_place, error_places, marks, one_if, utf8_width, utf16_width, total_width, Document}
use Rattle.piece_rope.proofs.Prelude.{decoded, decoded_text, decoded_errors}
use Rattle.piece_rope.specs.Bounds.{HasFew}
use Rattle.lemmas.proofs.Recursion.{counts-few, sum-few}

item_few : (i : Item) → length (item_code_points i) ≤ 2
item_few (One c) = omega arith
item_few i = omega arith

scalars_few : (ps : List Placed) → length (code_points ps) ≤ 2 * length ps
scalars_few [] = omega arith
scalars_few (p ∷ ps) = omega (arith, length-append (item_code_points p.item) (code_points ps), item_few p.item, scalars_few ps)

pub one_few : (b : Bool) → one_if b ≤ 1
one_few true = omega arith
one_few false = omega arith

error_few : (i : Item) (place : Place) → length (error_place i place) ≤ 1
error_few (One c) place = omega arith
error_few i place = omega arith

errors_few : (ps : List Placed) → length (error_places ps) ≤ length ps
errors_few [] = omega arith
errors_few (p ∷ ps) =
    let place : Place = record { from = p.from; to = p.to } in
    omega (arith, length-append (error_place p.item place) (error_places ps), error_few p.item place, errors_few ps)

pub has_few : (d : Document) → length (decoded d).items ≤ length d.bytes → HasFew d
unfolding decoded_text decoded_errors
has_few d few =
    let text = code_points (decoded d).items in
    let scalars : length text ≤ 2 * length d.bytes = omega (arith, few, scalars_few (decoded d).items) in
    record {
      scalars = scalars;
      utf16 = omega (arith, scalars, sum-few (total_width utf16_width) _ refl (λ _ _. refl) 2 (λ c. grind arith) text);
      utf8 = omega (arith, scalars, sum-few (total_width utf8_width) _ refl (λ _ _. refl) 4 (λ c. grind arith) text);
      marks = omega (arith, scalars, counts-few marks _ _ (λ _. refl) (λ _ _ _. refl) (λ _ _. one_few _) false text);
      errors = omega (arith, few, errors_few (decoded d).items);
    }
