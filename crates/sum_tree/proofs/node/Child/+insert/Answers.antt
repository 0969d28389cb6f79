use Rattle.std.proofs.Common.{◌≡◌, ◌+◌, ◌-◌, rules, refl, sym, ap, ◌∙◌, arith, length, insert}
use Rattle.std.proofs.lemmas.List.Edits.{length-insert}
use Rattle.sum_tree.specs.{Grown.grown, Opened.IsTwo, Opened.IsThree}
use Rattle.sum_tree.proofs.Edits.{inserts, edited_left, edited_right, edited_first, edited_middle, edited_last, summable_left, summable_right, summable_first}
use Rattle.sum_tree.proofs.{Edits.summable_middle, Edits.summable_last, Shapes.grown_at, Totals.summable_as}
use Rattle.sum_tree.proofs.node.Child.+insert.Goals as goal

pub leaves-requires : goal.leaves-requires
leaves-requires g t c = rw (c.in-Leaf.ensures.opened.items, c.if-i-eq0.true) at c.requires.summable

pub returns-then-i-eq0-clause-items : goal.returns-then-i-eq0-clause-items
returns-then-i-eq0-clause-items g t c = rw (c.in-Leaf.ensures.opened.items, c.if-i-eq0.true) c.leaves.ensures.items

pub leaves-requires-else-i-eq0 : goal.leaves-requires-else-i-eq0
leaves-requires-else-i-eq0 g t c =
    let second : c.args.i ≡ 1 = omega (arith, c.in-Leaf.ensures.opened.len) in
    rw (c.in-Leaf.ensures.opened.items, second) at c.requires.summable

pub returns-else-i-eq0-clause-items : goal.returns-else-i-eq0-clause-items
returns-else-i-eq0-clause-items g t c =
    let second : c.args.i ≡ 1 = omega (arith, c.in-Leaf.ensures.opened.len) in
    rw (c.in-Leaf.ensures.opened.items, second) c.leaves-else-i-eq0.ensures.items

pub insert-front-requires : goal.insert-front-requires
insert-front-requires g t c κs within =
    let fit = summable_left (inserts c.args.item) c.in-Two.ensures.opened g.met.S.Summary.laws g.T.Summed.sum_of g.met.S.Summary.fits_left
    c.args.i (omega arith) c.requires.summable in
    search rules

pub beside_right-requires : goal.beside_right-requires
beside_right-requires g t c =
    let o : IsTwo c.args.self c.in-Two.a c.in-Two.b = c.in-Two.ensures.opened in
    record {
      shape = rw o.level at c.insert-front.ensures.shape;
      sound = o.right;
      summable = summable_as (edited_left (inserts c.args.item) o c.args.i c.insert-front.ensures.items (omega arith)) c.requires.summable;
    }

pub returns-then-i-count-clause-items : goal.returns-then-i-count-clause-items
returns-then-i-count-clause-items g t c = c.beside_right.ensures.items
    ∙ sym (edited_left (inserts c.args.item) c.in-Two.ensures.opened c.args.i c.insert-front.ensures.items (omega arith))

pub insert-back-requires : goal.insert-back-requires
insert-back-requires g t c κs within =
    let fit = summable_right (inserts c.args.item) c.in-Two.ensures.opened g.met.S.Summary.laws g.T.Summed.sum_of
    g.met.S.Summary.fits_right c.args.i (c.args.i - c.count-else-i-count.result) (omega arith) c.requires.summable in
    search rules

pub beside_left-requires : goal.beside_left-requires
beside_left-requires g t c =
    let o : IsTwo c.args.self c.in-Two.a c.in-Two.b = c.in-Two.ensures.opened in
    record {
      shape = rw (← o.level) at c.insert-back.ensures.shape;
      sound = o.left;
      summable = summable_as (edited_right (inserts c.args.item) o c.args.i (c.args.i - c.count-else-i-count.result) c.insert-back.ensures.items
          (omega arith)) c.requires.summable;
    }

pub returns-else-i-count-clause-items : goal.returns-else-i-count-clause-items
returns-else-i-count-clause-items g t c = c.beside_left.ensures.items
    ∙ sym (edited_right (inserts c.args.item) c.in-Two.ensures.opened c.args.i (c.args.i - c.count-else-i-count.result) c.insert-back.ensures.items
    (omega arith))

pub insert-front-requires-then-i-count-2 : goal.insert-front-requires-then-i-count-2
insert-front-requires-then-i-count-2 g t c κs within =
    let fit = summable_first (inserts c.args.item) c.in-Three.ensures.opened g.met.S.Summary.laws g.T.Summed.sum_of
    g.met.S.Summary.fits_left c.args.i (omega arith) c.requires.summable in
    search rules

pub grown_front-requires : goal.grown_front-requires
grown_front-requires g t c =
    let o : IsThree c.args.self c.in-Three.a c.in-Three.b c.in-Three.c = c.in-Three.ensures.opened in
    let more = length-insert c.in-Three.a.items c.args.i c.args.item (omega arith) in
    let long : length (grown c.insert-front-then-i-count-2.result).items ≡ length (insert c.in-Three.a.items c.args.i c.args.item) =
    ap length c.insert-front-then-i-count-2.ensures.items in
    record {
      shape = rw o.level at c.insert-front-then-i-count-2.ensures.shape;
      pair = (o.middle, o.right, refl, sym o.level_right);
      summable = summable_as (edited_first (inserts c.args.item) o c.args.i c.insert-front-then-i-count-2.ensures.items (omega arith)) c.requires.summable;
      room = omega arith;
    }

pub returns-then-i-count-2 : goal.returns-then-i-count-2
returns-then-i-count-2 g t c =
    let o : IsThree c.args.self c.in-Three.a c.in-Three.b c.in-Three.c = c.in-Three.ensures.opened in
    record {
      items = c.grown_front.ensures.items ∙ sym (edited_first (inserts c.args.item) o c.args.i c.insert-front-then-i-count-2.ensures.items (omega arith));
      shape = grown_at (c.in-Three.b.height + 1) c.args.self.height c.grown_front.result (omega arith) c.grown_front.ensures.shape;
      boxes = omega arith;
      capacity = c.grown_front.ensures.capacity ∙ c.insert-front-then-i-count-2.ensures.capacity;
    }

pub insert-middle-requires : goal.insert-middle-requires
insert-middle-requires g t c κs within =
    let fit = summable_middle (inserts c.args.item) c.in-Three.ensures.opened g.met.S.Summary.laws g.T.Summed.sum_of
    g.met.S.Summary.fits_left g.met.S.Summary.fits_right c.args.i (c.args.i - c.count-in-Three-2.result) (omega arith) (omega arith) c.requires.summable in
    search rules

pub grown_middle-requires : goal.grown_middle-requires
grown_middle-requires g t c =
    let o : IsThree c.args.self c.in-Three.a c.in-Three.b c.in-Three.c = c.in-Three.ensures.opened in
    let more = length-insert c.in-Three.b.items (c.args.i - c.count-in-Three-2.result) c.args.item (omega arith) in
    let long : length (grown c.insert-middle.result).items
    ≡ length (insert c.in-Three.b.items (c.args.i - c.count-in-Three-2.result) c.args.item) = ap length c.insert-middle.ensures.items in
    record {
      shape = rw (← o.level) at c.insert-middle.ensures.shape;
      pair = (o.left, o.right, refl, sym (o.level ∙ o.level_right));
      summable = summable_as (edited_middle (inserts c.args.item) o c.args.i (c.args.i - c.count-in-Three-2.result) c.insert-middle.ensures.items
          (omega arith) (omega arith)) c.requires.summable;
      room = omega arith;
    }

pub returns-then-j-count : goal.returns-then-j-count
returns-then-j-count g t c =
    let o : IsThree c.args.self c.in-Three.a c.in-Three.b c.in-Three.c = c.in-Three.ensures.opened in
    record {
      items = c.grown_middle.ensures.items
          ∙ sym (edited_middle (inserts c.args.item) o c.args.i (c.args.i - c.count-in-Three-2.result) c.insert-middle.ensures.items
          (omega arith) (omega arith));
      shape = grown_at (c.in-Three.a.height + 1) c.args.self.height c.grown_middle.result (omega arith) c.grown_middle.ensures.shape;
      boxes = omega arith;
      capacity = c.grown_middle.ensures.capacity ∙ c.insert-middle.ensures.capacity;
    }

pub insert-back-requires-else-j-count : goal.insert-back-requires-else-j-count
insert-back-requires-else-j-count g t c κs within =
    let fit = summable_last (inserts c.args.item) c.in-Three.ensures.opened g.met.S.Summary.laws g.T.Summed.sum_of
    g.met.S.Summary.fits_right c.args.i (c.args.i - c.count-in-Three-2.result)
    (c.args.i - c.count-in-Three-2.result - c.count-else-j-count.result) (omega arith) (omega arith) c.requires.summable in
    search rules

pub grown_back-requires : goal.grown_back-requires
grown_back-requires g t c =
    let o : IsThree c.args.self c.in-Three.a c.in-Three.b c.in-Three.c = c.in-Three.ensures.opened in
    let more = length-insert c.in-Three.c.items (c.args.i - c.count-in-Three-2.result - c.count-else-j-count.result) c.args.item (omega arith) in
    let long : length (grown c.insert-back-else-j-count.result).items
    ≡ length (insert c.in-Three.c.items (c.args.i - c.count-in-Three-2.result - c.count-else-j-count.result) c.args.item) =
    ap length c.insert-back-else-j-count.ensures.items in
    record {
      shape = rw (← o.level_right, ← o.level) at c.insert-back-else-j-count.ensures.shape;
      pair = (o.left, o.middle, refl, sym o.level);
      summable = summable_as (edited_last (inserts c.args.item) o c.args.i (c.args.i - c.count-in-Three-2.result)
          (c.args.i - c.count-in-Three-2.result - c.count-else-j-count.result) c.insert-back-else-j-count.ensures.items (omega arith)
          (omega arith)) c.requires.summable;
      room = omega arith;
    }

pub returns-else-j-count : goal.returns-else-j-count
returns-else-j-count g t c =
    let o : IsThree c.args.self c.in-Three.a c.in-Three.b c.in-Three.c = c.in-Three.ensures.opened in
    record {
      items = c.grown_back.ensures.items
          ∙ sym (edited_last (inserts c.args.item) o c.args.i (c.args.i - c.count-in-Three-2.result)
          (c.args.i - c.count-in-Three-2.result - c.count-else-j-count.result) c.insert-back-else-j-count.ensures.items (omega arith) (omega arith));
      shape = grown_at (c.in-Three.a.height + 1) c.args.self.height c.grown_back.result (omega arith) c.grown_back.ensures.shape;
      boxes = omega arith;
      capacity = c.grown_back.ensures.capacity ∙ c.insert-back-else-j-count.ensures.capacity;
    }
