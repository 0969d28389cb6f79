use Rattle.std.proofs.Common.{refl, arith, sym, append-nil}
use Rattle.sum_tree.proofs.{Levels.rises_on, Levels.rises_end, Reaching.into_front, Reaching.way_on, Reaching.way_room, Reaching.element_at}
use Rattle.sum_tree.proofs.node.Child.find.Goals as goal

pub levels-init : goal.levels-init
levels-init g c = record {
  way = into_front g.met.S.Summary.laws _ _ _ (sym (append-nil _)) c.requires.fit c.requires.sought;
  below = omega arith;
  visited = record { exact = λ few. omega arith; most = omega arith; kept = omega arith };
}

pub returns-in-Element-clause-found : goal.returns-in-Element-clause-found
returns-in-Element-clause-found g c =
    rw c.in-Element.ensures.3 (element_at g.met.S.Summary.laws c.levels.invariant.way c.in-Element.ensures.0)

pub returns-in-Element-clause-visited : goal.returns-in-Element-clause-visited
returns-in-Element-clause-visited g c = rises_end _ _ _ _ _ c.in-Element.ensures.1 c.in-Element.ensures.2 c.levels.invariant.visited

pub overflow_add-place : goal.overflow_add-place
overflow_add-place g c =
    let way = way_on g.met.S.Summary.laws c.levels.invariant.way c.in-Child.ensures.0 refl in
    omega (arith, way_room g.met.S.Summary.laws way, c.count-count.ensures, c.count-count.type_inv)

pub levels-preserved : goal.levels-preserved
levels-preserved g c = record {
  way = way_on g.met.S.Summary.laws c.levels.invariant.way c.in-Child.ensures.0 refl;
  below = omega (arith, c.levels.invariant.below, c.in-Child.ensures.1);
  visited = rises_on _ _ _ _ _ _ c.levels.invariant.below c.in-Child.ensures.1 c.levels.invariant.visited c.in-Child.ensures.2;
}
