use Rattle.piece_rope.proofs.Prelude.{◌≡◌, sym, ap, ◌∙◌, [], ◌∷◌, ◌++◌, take, drop, length, length-drop, arith, rules, add-one, slice_get_within}
use Rattle.std.proofs.Common.{append_assoc}
use Rattle.lemmas.proofs.Lists.{first-behind, take-next}
use Rattle.piece_rope.proofs.error_cursor.ErrorCursor.push_to.Goals as goal

pub errors-preserved : goal.errors-preserved
errors-preserved c =
    let all = c.args.self.now in
    let n = c.errors.count in
    let place = c.in-Some.place in
    let found = first-behind all c.next.new.self n place (sym c.errors.invariant.left ∙ c.in-Some.ensures) in
    let more : c.push_reserved.new.self.items ≡ c.errors.places.items ++ place ∷ [] = search rules in
    record {
      high = omega (arith, c.errors-test.true);
      few = omega (arith, slice_get_within all n place found.0);
      places = cc (more, c.errors.invariant.places, add-one n, take-next all n place found.0, append_assoc c.args.places.now.items (take n all) (place ∷ []));
      left = sym found.1;
      len = omega (arith, c.push_reserved.ensures.len, c.errors.invariant.len);
      capacity = c.push_reserved.ensures.capacity ∙ c.errors.invariant.capacity;
    }

pub returns-in_default-clause-count : goal.returns-in_default-clause-count
returns-in_default-clause-count c =
    let all = c.args.self.now in
    let none : drop c.errors.count all ≡ [] = sym c.errors.invariant.left ∙ c.in_default.ensures in
    omega (arith, ap length none, length-drop c.errors.count all, c.errors.invariant.few, c.errors.invariant.high)
