use Rattle.std.proofs.Common.{arith}
use Rattle.sum_tree.proofs.Reaching.{reach_front, reach_middle, into_first, into_last, into_middle, into_third}
use Rattle.sum_tree.proofs.node.Child.below.Goals as goal

pub reach-requires : goal.reach-requires
reach-requires g c = reach_front g.met.S.Summary.laws _ _ _ c.in-Two.ensures.parts.items c.requires.fit g.met.S.Summary.fits_left

pub behind-requires : goal.behind-requires
behind-requires g c = reach_front g.met.S.Summary.laws _ _ _ c.in-Two.ensures.parts.items c.requires.fit g.met.S.Summary.fits_left

pub reach-requires-in-Three : goal.reach-requires-in-Three
reach-requires-in-Three g c = reach_front g.met.S.Summary.laws _ _ _ c.in-Three.ensures.parts.items c.requires.fit g.met.S.Summary.fits_left

pub behind-requires-in-Three : goal.behind-requires-in-Three
behind-requires-in-Three g c = reach_front g.met.S.Summary.laws _ _ _ c.in-Three.ensures.parts.items c.requires.fit g.met.S.Summary.fits_left

pub reach-requires-in-Three-2 : goal.reach-requires-in-Three-2
reach-requires-in-Three-2 g c =
    reach_middle g.met.S.Summary.laws c.in-Three.ensures.parts c.requires.fit c.behind-in-Three.ensures g.met.S.Summary.fits_left

pub behind-requires-in-Three-2 : goal.behind-requires-in-Three-2
behind-requires-in-Three-2 g c =
    reach_middle g.met.S.Summary.laws c.in-Three.ensures.parts c.requires.fit c.behind-in-Three.ensures g.met.S.Summary.fits_left

pub returns-then-target-reach : goal.returns-then-target-reach
returns-then-target-reach g c =
    let way = into_first g.met.S.Summary.laws _ _ _ c.requires.fit c.requires.sought c.in-Two.ensures.parts.items c.reach.ensures
    c.if-target-reach.true g.met.S.Summary.fits_left in
    (way, c.in-Two.ensures.parts.height, c.count.ensures.rises)

pub returns-else-target-reach : goal.returns-else-target-reach
returns-else-target-reach g c =
    let p = c.in-Two.ensures.parts in
    let way = into_last g.met.S.Summary.laws _ _ _ c.requires.fit c.requires.sought p.items c.behind.ensures c.reach.ensures
    c.if-target-reach.false c.count-in-Two.ensures in
    (way, omega (arith, p.height, p.level), c.count.ensures.rises)

pub returns-then-target-reach-2 : goal.returns-then-target-reach-2
returns-then-target-reach-2 g c =
    let way = into_first g.met.S.Summary.laws _ _ _ c.requires.fit c.requires.sought c.in-Three.ensures.parts.items c.reach-in-Three.ensures
    c.if-target-reach-2.true g.met.S.Summary.fits_left in
    (way, c.in-Three.ensures.parts.height, c.count-in-Three.ensures.rises)

pub returns-then-target-reach-3 : goal.returns-then-target-reach-3
returns-then-target-reach-3 g c =
    let p = c.in-Three.ensures.parts in
    let way = into_middle g.met.S.Summary.laws _ _ _ _ c.requires.fit c.requires.sought p.items c.behind-in-Three.ensures c.reach-in-Three.ensures
    c.if-target-reach-2.false c.count-then-target-reach-3.ensures c.reach-in-Three-2.ensures c.if-target-reach-3.true g.met.S.Summary.fits_left in
    (way, omega (arith, p.height, p.level), c.count-in-Three.ensures.rises)

pub returns-else-target-reach-3 : goal.returns-else-target-reach-3
returns-else-target-reach-3 g c =
    let p = c.in-Three.ensures.parts in
    let way = into_third g.met.S.Summary.laws _ _ _ _ c.requires.fit c.requires.sought p.items c.behind-in-Three.ensures c.reach-in-Three.ensures
    c.if-target-reach-2.false c.count-in-Three-2.ensures c.behind-in-Three-2.ensures c.reach-in-Three-2.ensures c.if-target-reach-3.false
    c.count-in-Three-3.ensures in
    (way, omega (arith, p.height, p.level, p.level_right), c.count-in-Three.ensures.rises)
