use Rattle.std.proofs.Common.{◌≡◌, ◌+◌, ◌-◌, rules, refl, sym, ◌∙◌, arith}
use Rattle.sum_tree.{specs.Opened.IsTwo, specs.Opened.IsThree, specs.Grown.grown, proofs.Edits.removes, proofs.Edits.edited_left}
use Rattle.sum_tree.proofs.Edits.{edited_right, joined_first, joined_middle, joined_last, summable_left, summable_right, summable_first, summable_middle}
use Rattle.sum_tree.proofs.{Edits.summable_last, Shapes.grown_height, Shapes.grown_own, Totals.summable_front, Totals.summable_back, Totals.summable_as}
use Rattle.sum_tree.proofs.node.Child.+remove.Goals as goal

pub remove-x-requires : goal.remove-x-requires
remove-x-requires g t c κs within =
    let fit = summable_left removes c.in-Two.ensures.opened g.met.S.Summary.laws g.T.Summed.sum_of g.met.S.Summary.fits_left c.args.i (omega arith)
    c.requires.summable in
    search rules

pub taken_right-children-requires : goal.taken_right-children-requires
taken_right-children-requires g t c =
    let o : IsTwo c.args.self c.in-Two.a c.in-Two.b = c.in-Two.ensures.opened in
    record {
      shape = rw o.level at c.remove-x.ensures.shape;
      sound = o.right;
      summable = summable_as (edited_left removes o c.args.i c.remove-x.ensures.items (omega arith)) c.requires.summable;
    }

pub settled-requires : goal.settled-requires
settled-requires g t c =
    let o : IsTwo c.args.self c.in-Two.a c.in-Two.b = c.in-Two.ensures.opened in
    let items = edited_left removes o c.args.i c.remove-x.ensures.items (omega arith) ∙ sym c.taken_right-children.ensures.items in
    record {
      shape = grown_own c.in-Two.b.height c.taken_right-children.result c.taken_right-children.ensures.shape;
      summable = summable_as items c.requires.summable;
      space = omega arith;
    }

pub returns-then-i-count-clause-items : goal.returns-then-i-count-clause-items
returns-then-i-count-clause-items g t c = c.settled.ensures.items ∙ c.taken_right-children.ensures.items
    ∙ sym (edited_left removes c.in-Two.ensures.opened c.args.i c.remove-x.ensures.items (omega arith))

pub returns-then-i-count-clause-shape : goal.returns-then-i-count-clause-shape
returns-then-i-count-clause-shape g t c =
    let height = grown_height c.in-Two.b.height c.taken_right-children.result c.taken_right-children.ensures.shape in
    let high : (grown c.taken_right-children.result).height + 1 ≡ c.args.self.height =
    omega (arith, c.in-Two.ensures.opened.height, c.in-Two.ensures.opened.level) in
    rw high at c.settled.ensures.shape

pub remove-x-requires-else-i-count : goal.remove-x-requires-else-i-count
remove-x-requires-else-i-count g t c κs within =
    let fit = summable_right removes c.in-Two.ensures.opened g.met.S.Summary.laws g.T.Summed.sum_of g.met.S.Summary.fits_right c.args.i
    (c.args.i - c.count-else-i-count.result) (omega arith) c.requires.summable in
    search rules

pub taken_left-children-requires : goal.taken_left-children-requires
taken_left-children-requires g t c =
    let o : IsTwo c.args.self c.in-Two.a c.in-Two.b = c.in-Two.ensures.opened in
    record {
      shape = rw (← o.level) at c.remove-x-else-i-count.ensures.shape;
      sound = o.left;
      summable = summable_as (edited_right removes o c.args.i (c.args.i - c.count-else-i-count.result) c.remove-x-else-i-count.ensures.items
          (omega arith)) c.requires.summable;
    }

pub settled-requires-else-i-count : goal.settled-requires-else-i-count
settled-requires-else-i-count g t c =
    let o : IsTwo c.args.self c.in-Two.a c.in-Two.b = c.in-Two.ensures.opened in
    let items = edited_right removes o c.args.i (c.args.i - c.count-else-i-count.result) c.remove-x-else-i-count.ensures.items (omega arith)
    ∙ sym c.taken_left-children.ensures.items in
    record {
      shape = grown_own c.in-Two.a.height c.taken_left-children.result c.taken_left-children.ensures.shape;
      summable = summable_as items c.requires.summable;
      space = omega arith;
    }

pub returns-else-i-count-clause-items : goal.returns-else-i-count-clause-items
returns-else-i-count-clause-items g t c = c.settled-else-i-count.ensures.items ∙ c.taken_left-children.ensures.items
    ∙ sym (edited_right removes c.in-Two.ensures.opened c.args.i (c.args.i - c.count-else-i-count.result) c.remove-x-else-i-count.ensures.items
    (omega arith))

pub returns-else-i-count-clause-shape : goal.returns-else-i-count-clause-shape
returns-else-i-count-clause-shape g t c =
    let height = grown_height c.in-Two.a.height c.taken_left-children.result c.taken_left-children.ensures.shape in
    let high : (grown c.taken_left-children.result).height + 1 ≡ c.args.self.height = omega (arith, c.in-Two.ensures.opened.height) in
    rw high at c.settled-else-i-count.ensures.shape

pub remove-x-requires-then-i-count-2 : goal.remove-x-requires-then-i-count-2
remove-x-requires-then-i-count-2 g t c κs within =
    let fit = summable_first removes c.in-Three.ensures.opened g.met.S.Summary.laws g.T.Summed.sum_of g.met.S.Summary.fits_left c.args.i (omega arith)
    c.requires.summable in
    search rules

pub taken_right-children-requires-then-i-count-2 : goal.taken_right-children-requires-then-i-count-2
taken_right-children-requires-then-i-count-2 g t c =
    let o : IsThree c.args.self c.in-Three.a c.in-Three.b c.in-Three.c = c.in-Three.ensures.opened in
    record {
      shape = rw o.level at c.remove-x-then-i-count-2.ensures.shape;
      sound = o.middle;
      summable = summable_front g.met.S.Summary.laws g.T.Summed.sum_of g.met.S.Summary.fits_left _ _ c.in-Three.c.items
          (joined_first removes o c.args.i c.remove-x-then-i-count-2.ensures.items refl (omega arith)) c.requires.summable;
    }

pub beside_right-requires : goal.beside_right-requires
beside_right-requires g t c =
    let o : IsThree c.args.self c.in-Three.a c.in-Three.b c.in-Three.c = c.in-Three.ensures.opened in
    record {
      shape = rw o.level_right at c.taken_right-children-then-i-count-2.ensures.shape;
      sound = o.right;
      summable = summable_as (joined_first removes o c.args.i c.remove-x-then-i-count-2.ensures.items c.taken_right-children-then-i-count-2.ensures.items
          (omega arith)) c.requires.summable;
    }

pub returns-then-i-count-2-clause-items : goal.returns-then-i-count-2-clause-items
returns-then-i-count-2-clause-items g t c = c.beside_right.ensures.items
    ∙ sym (joined_first removes c.in-Three.ensures.opened c.args.i c.remove-x-then-i-count-2.ensures.items
    c.taken_right-children-then-i-count-2.ensures.items (omega arith))

pub remove-x-requires-then-j-count : goal.remove-x-requires-then-j-count
remove-x-requires-then-j-count g t c κs within =
    let fit = summable_middle removes c.in-Three.ensures.opened g.met.S.Summary.laws g.T.Summed.sum_of g.met.S.Summary.fits_left g.met.S.Summary.fits_right
    c.args.i (c.args.i - c.count-in-Three-2.result) (omega arith) (omega arith) c.requires.summable in
    search rules

pub taken_left-children-requires-then-j-count : goal.taken_left-children-requires-then-j-count
taken_left-children-requires-then-j-count g t c =
    let o : IsThree c.args.self c.in-Three.a c.in-Three.b c.in-Three.c = c.in-Three.ensures.opened in
    record {
      shape = rw (← o.level) at c.remove-x-then-j-count.ensures.shape;
      sound = o.left;
      summable = summable_front g.met.S.Summary.laws g.T.Summed.sum_of g.met.S.Summary.fits_left _ _ c.in-Three.c.items
          (joined_middle removes o c.args.i (c.args.i - c.count-in-Three-2.result) c.remove-x-then-j-count.ensures.items refl (omega arith)
          (omega arith)) c.requires.summable;
    }

pub beside_right-requires-then-j-count : goal.beside_right-requires-then-j-count
beside_right-requires-then-j-count g t c =
    let o : IsThree c.args.self c.in-Three.a c.in-Three.b c.in-Three.c = c.in-Three.ensures.opened in
    record {
      shape = rw (o.level, o.level_right) at c.taken_left-children-then-j-count.ensures.shape;
      sound = o.right;
      summable = summable_as (joined_middle removes o c.args.i (c.args.i - c.count-in-Three-2.result) c.remove-x-then-j-count.ensures.items
          c.taken_left-children-then-j-count.ensures.items (omega arith) (omega arith)) c.requires.summable;
    }

pub returns-then-j-count-clause-items : goal.returns-then-j-count-clause-items
returns-then-j-count-clause-items g t c = c.beside_right-then-j-count.ensures.items
    ∙ sym (joined_middle removes c.in-Three.ensures.opened c.args.i (c.args.i - c.count-in-Three-2.result) c.remove-x-then-j-count.ensures.items
    c.taken_left-children-then-j-count.ensures.items (omega arith) (omega arith))

pub remove-x-requires-else-j-count : goal.remove-x-requires-else-j-count
remove-x-requires-else-j-count g t c κs within =
    let fit = summable_last removes c.in-Three.ensures.opened g.met.S.Summary.laws g.T.Summed.sum_of g.met.S.Summary.fits_right c.args.i
    (c.args.i - c.count-in-Three-2.result) (c.args.i - c.count-in-Three-2.result - c.count-else-j-count.result) (omega arith)
    (omega arith) c.requires.summable in
    search rules

pub taken_left-children-requires-else-j-count : goal.taken_left-children-requires-else-j-count
taken_left-children-requires-else-j-count g t c =
    let o : IsThree c.args.self c.in-Three.a c.in-Three.b c.in-Three.c = c.in-Three.ensures.opened in
    record {
      shape = rw (← o.level_right) at c.remove-x-else-j-count.ensures.shape;
      sound = o.middle;
      summable = summable_back g.met.S.Summary.laws g.T.Summed.sum_of g.met.S.Summary.fits_right _ c.in-Three.a.items _
          (joined_last removes o c.args.i (c.args.i - c.count-in-Three-2.result)
          (c.args.i - c.count-in-Three-2.result - c.count-else-j-count.result) c.remove-x-else-j-count.ensures.items refl (omega arith)
          (omega arith)) c.requires.summable;
    }

pub beside_left-requires : goal.beside_left-requires
beside_left-requires g t c =
    let o : IsThree c.args.self c.in-Three.a c.in-Three.b c.in-Three.c = c.in-Three.ensures.opened in
    record {
      shape = rw (← o.level) at c.taken_left-children-else-j-count.ensures.shape;
      sound = o.left;
      summable = summable_as (joined_last removes o c.args.i (c.args.i - c.count-in-Three-2.result)
          (c.args.i - c.count-in-Three-2.result - c.count-else-j-count.result) c.remove-x-else-j-count.ensures.items
          c.taken_left-children-else-j-count.ensures.items (omega arith) (omega arith)) c.requires.summable;
    }

pub returns-else-j-count-clause-items : goal.returns-else-j-count-clause-items
returns-else-j-count-clause-items g t c = c.beside_left.ensures.items
    ∙ sym (joined_last removes c.in-Three.ensures.opened c.args.i (c.args.i - c.count-in-Three-2.result)
    (c.args.i - c.count-in-Three-2.result - c.count-else-j-count.result) c.remove-x-else-j-count.ensures.items
    c.taken_left-children-else-j-count.ensures.items (omega arith) (omega arith))
